use Rattle.std.proofs.Common.{◌+◌, ◌++◌, ◌∷◌, [], List, length, get_or, refl, ap, ◌∙◌, subst, sym}
use Rattle.std.proofs.Math.Logic.{∥∥₁_map}
use Rattle.book.specs.Books.{blocks, memory}
use Rattle.book.specs.Meeting.{shown, Met}
use Rattle.model.specs.Blocks.{Block}
use Rattle.rehearsal.specs.Held.{HoldWorld}
use Rattle.rehearsal.specs.Noted.{no_note}
use Rattle.rehearsal.specs.Played.{parts}
use Rattle.rehearsal.specs.Scenes.{Scene, with_blocks}
use Rattle.rehearsal.proofs.Setting.{same-blocks, plays_grown, met_new, met_known}
use Rattle.rehearsal.proofs.committee.Committee.meet.Goals as goal

pub invariant_of-self : goal.invariant_of-self
invariant_of-self c = record {
  played = ∥∥₁_map c.args.self.now.played (λ w.
      (w.0, same-blocks w.0 (parts c.args.self.now) (record (parts c.args.self.now) { notes = c.make_room.new.notes }) w.1 refl c.make_room.ensures.same refl refl refl refl));
}

pub invariant_of-self-in_default : goal.invariant_of-self-in_default
invariant_of-self-in_default c = record {
  played = ∥∥₁_map c.args.self.now.played (λ w. (
    w.0,
    same-blocks w.0 (parts c.args.self.now) (record (parts c.args.self.now) { book = c.meet.new.self; notes = c.make_room.new.notes }) w.1
        c.in_default.ensures.met.same c.make_room.ensures.same refl refl refl refl,
  ));
}

pub invariant_of-self-else-name-next : goal.invariant_of-self-else-name-next
invariant_of-self-else-name-next c = record {
  played = ∥∥₁_map c.args.self.now.played (λ w. (
    w.0,
    same-blocks w.0 (parts c.args.self.now) (record (parts c.args.self.now) { book = c.meet.new.self; notes = c.make_room.new.notes }) w.1
        (met_known (memory c.args.self.now.book) _ _ (shown c.args.block) c.in-Ok.name c.in-Ok.ensures.met (λ e. c.if-name-next.false (e ∙ sym c.len-next.ensures)))
        c.make_room.ensures.same refl refl refl refl,
  ));
}

-- the book has grown by the block
grown : (c : goal.After-push) (s : Scene) → HoldWorld s (parts c.args.self.now) →
    HoldWorld (with_blocks (blocks c.meet.new.self) s) (record (parts c.args.self.now) { book = c.meet.new.self; notes = c.push.new.self })
grown c s p =
    let met = c.in-Ok.ensures.met in
    plays_grown s (parts c.args.self.now) _ (shown c.args.block) p
    (met_new (memory c.args.self.now.book) _ _ (shown c.args.block) c.in-Ok.name met (c.if-name-next.true ∙ c.len-next.ensures) ∙ ap (λ (l : List Block). l ++ (shown c.args.block ∷ [])) p.book)
    refl refl refl refl (c.push.ensures.long ∙ ap (λ l. length l + 1) c.make_room.ensures.same)
    (λ x. c.push.ensures.noted x ∙ ap (λ l. get_or l x no_note) c.make_room.ensures.same)

pub invariant_of-self-then-name-next : goal.invariant_of-self-then-name-next
invariant_of-self-then-name-next c = record { played = ∥∥₁_map c.args.self.now.played (λ w. (_, grown c w.0 w.1)) }

pub returns-then-name-next-clause-plays : goal.returns-then-name-next-clause-plays
returns-then-name-next-clause-plays c s p = (
  blocks c.meet.new.self,
  subst (λ (before : List Block). Met (memory c.args.self.now.book) before (shown c.args.block) c.in-Ok.name (blocks c.meet.new.self)) p.book c.in-Ok.ensures.met,
  grown c.before s p,
)
