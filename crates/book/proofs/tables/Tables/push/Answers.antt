use Rattle.std.proofs.Common.{◌<◌, length, sym, subst}
use Rattle.book.specs.Content.{max_blocks}
use Rattle.book.specs.Memory.{Kept}
use Rattle.book.specs.Meeting.{shown}
use Rattle.book.proofs.Filling.{blocks_more, tabled_more}
use Rattle.book.proofs.tables.Tables.push.Goals as goal

pub invariant_of-self : goal.invariant_of-self
invariant_of-self c =
    let room = subst (λ (kept : Kept). length kept.content < max_blocks) (sym c.self.view_is) c.requires.room.0 in
    rw (c.push.ensures.items, c.extend_from_slice.ensures.items, c.extend_from_slice-2.ensures.items, c.len.ensures, c.len-2.ensures)
    (tabled_more _ _ _ (shown c.args.block) c.self.invariant room c.requires.few c.requires.short)

pub returns-clause-grown : goal.returns-clause-grown
returns-clause-grown c =
    rw (c.push.ensures.items, c.extend_from_slice.ensures.items, c.extend_from_slice-2.ensures.items, c.len.ensures, c.len-2.ensures, ← c.self.view_is)
    (blocks_more _ _ _ (shown c.args.block) c.self.invariant.placed)
