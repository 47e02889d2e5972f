use Rattle.std.proofs.Common.{◌<◌, true, ltb, length, sym, ap, ◌∙◌, arith, subst}
use Rattle.std.proofs.Math.Logic.{∥∥₁_map, ∥∥₁_elim}
use Rattle.std.specs.Coded.{le_prop}
use Rattle.model.specs.Thresholds.{members}
use Rattle.rehearsal.specs.Scenes.{world_in}
use Rattle.rehearsal.specs.Played.{parts}
use Rattle.rehearsal.proofs.Acting.{forges_done, small_member}
use Rattle.rehearsal.specs.Held.{HoldWorld}
use Rattle.rehearsal.specs.Scenes.{Scene}
use Rattle.rehearsal.specs.declared.act.Act.TheVariants.{Forges}
use Rattle.rehearsal.proofs.Acting.{ActedBy, with_step}
use Rattle.rehearsal.proofs.committee.Committee.forges.Goals as goal

forged : (c : goal.After-add) (s : Scene) → HoldWorld s (parts c.args.self.now) →
    ActedBy s Forges c.args.member c.args.name true (with_step (parts c.args.self.now) c.args.self.now.seats c.add.new.self)
forged c s p =
    let bad = sym (c.if-not-contains.ensures s.bad p.bad) in
    let member = sym (c.if-not-has_member.ensures ∙ ap (λ f. ltb c.args.member (members f)) p.faults) in
    forges_done s (parts c.args.self.now) c.add.new.self p c.args.member c.args.name (subst (λ l. c.args.name < length l) p.book c.requires) member bad
    (c.add.ensures.noted (world_in s).signatures (world_in s).made p.notes) c.add.ensures.long

pub returns-clause-acted : goal.returns-clause-acted
returns-clause-acted c s p = let acted = forged c.before s p in record { right = acted.right; after = acted.after }

pub invariant_of-self : goal.invariant_of-self
invariant_of-self c = record { played = ∥∥₁_map c.args.self.now.played (λ (s, p). (_, (forged c s p).after)) }

pub add-requires : goal.add-requires
add-requires c = record {
  who = small_member c.args.self.now.faults.f c.args.member c.args.self.now.faults.few (sym c.if-not-has_member.ensures);
  there = ∥∥₁_elim c.args.self.now.played le_prop (λ (s, p). let same = ap length p.book in omega (arith, p.noted));
}
