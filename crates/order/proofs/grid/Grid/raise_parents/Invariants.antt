use Rattle.std.proofs.Common.{◌≡◌}
use Rattle.order_theory.specs.Tables.{raised_all}
use Rattle.order.proofs.grid.Grid.raise_parents.Given as goal

-- raising the rest of the parents here is raising all of them at the start
abbrev pub invariant-loop-parent : goal.invariant-loop-parent
invariant-loop-parent g l =
    let b = g.B.Library.what l.initial.self.book.now in
    let n = l.initial.self.width.places in
    (l.self ≡ record l.initial.self { marks = l.self.marks })
    × (raised_all n b l.mark (b l.name).parents l.initial.self.marks ≡ raised_all n b l.mark l.parent-iterator l.self.marks)
