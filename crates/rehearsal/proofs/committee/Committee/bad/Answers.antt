use Rattle.std.proofs.Common.{◌≡◌, true, ◌||◌, ltb, length, vec_items, sym, refl, ap, ◌∙◌}
use Rattle.std.proofs.Math.Logic.{∥∥₁_map}
use Rattle.std.proofs.lemmas.Bool.{eqb-true}
use Rattle.model.specs.Names.{different}
use Rattle.model.specs.Thresholds.{members}
use Rattle.rehearsal.specs.Scenes.{Scene, is_bad}
use Rattle.rehearsal.specs.Held.{HoldWorld}
use Rattle.rehearsal.specs.Played.{parts}
use Rattle.rehearsal.proofs.Noting.{inserted}
use Rattle.rehearsal.proofs.Acting.{small_member}
use Rattle.rehearsal.proofs.Setting.{SaidBadBy, plays_bad, room_found, room_left}
use Rattle.rehearsal.proofs.committee.Committee.bad.Goals as goal
use Rattle.rehearsal.proofs.committee.Committee.bad.Goals.{else-not-contains-via-then-not-contains+else-count-most_bad, else-not-contains-via-else-not-contains}

said : (c : goal.After-insert) (s : Scene) → HoldWorld s (parts c.args.self.now) → SaidBadBy s c.args.member true (record (parts c.args.self.now) { bad = c.insert.new.self })
said c s p =
    let self = c.args.self.now in
    let i = c.args.member in
    let none : length s.blocks ≡ 0 = sym p.noted ∙ eqb-true (length (vec_items self.notes.notes)) 0 (sym c.if-not-is_empty.ensures) in
    let member : ltb i (members s.faults) ≡ true = ap (λ f. ltb i (members f)) (sym p.faults) ∙ sym c.if-not-has_member.ensures in
    let small = small_member self.faults.f i self.faults.few (sym c.if-not-has_member.ensures) in
    let room : is_bad s i || ltb (different s.bad) s.faults ≡ true =
    elim c.else-not-contains.branch [
      | else-not-contains-via-then-not-contains+else-count-most_bad w ↦
          room_left (is_bad s i) (different s.bad) s.faults w.count.result w.most_bad.result w.if-count-most_bad.false (w.count.ensures s.bad p.bad)
          (w.most_bad.ensures ∙ p.faults)
      | else-not-contains-via-else-not-contains w ↦ room_found (is_bad s i) (ltb (different s.bad) s.faults) (sym (w.if-not-contains.ensures s.bad p.bad))
    ] in
    plays_bad s (parts self) _ i p none member room ((inserted i self.bad c.insert.new.self c.insert.result small c.insert.ensures).1 s.bad p.bad)
    refl refl refl refl refl

pub unwrap-requires : goal.unwrap-requires
unwrap-requires c =
    let small = small_member c.args.self.now.faults.f c.args.member c.args.self.now.faults.few (sym c.if-not-has_member.ensures) in
    (inserted c.args.member _ _ c.insert.result small c.insert.ensures).0

pub returns-clause-plays : goal.returns-clause-plays
returns-clause-plays c s p = let told = said c.before.before s p in record { right = told.right; after = told.after }

pub invariant_of-self : goal.invariant_of-self
invariant_of-self c = record { played = ∥∥₁_map c.args.self.now.played (λ w. (_, (said c w.0 w.1).after)) }
