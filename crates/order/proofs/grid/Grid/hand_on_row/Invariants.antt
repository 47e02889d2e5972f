use Rattle.std.proofs.Common.{◌≡◌}
use Rattle.order_theory.specs.Tables.{row_handed_on}
use Rattle.order.proofs.grid.Grid.hand_on_row.Given as goal

-- what is left of the row here comes to the whole row at the start
abbrev pub invariant-loop-i : goal.invariant-loop-i
invariant-loop-i g l =
    let b = g.B.Library.what l.initial.self.book.now in
    let n = l.initial.self.width.places in
    let names = l.initial.self.names in
    (l.self ≡ record l.initial.self { marks = l.self.marks })
    × (row_handed_on n b names l.row n l.initial.self.marks ≡ row_handed_on n b names l.row l.i l.self.marks)
