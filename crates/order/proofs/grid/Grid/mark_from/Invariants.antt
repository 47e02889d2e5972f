use Rattle.std.proofs.Common.{◌≡◌, ◌+◌, ◌/◌, ◌≤◌}
use Rattle.order_theory.specs.Tables.{marked_from, went_back}
use Rattle.order.specs.Marks.{steps_of}
use Rattle.order.proofs.grid.Grid.mark_from.Given as goal

-- the rounds that are left come here to what all come to at the start
abbrev pub invariant-loop-round : goal.invariant-loop-round
invariant-loop-round g l =
    let b = g.B.Library.what l.initial.self.book.now in
    let n = l.initial.self.width.places in
    let names = l.initial.self.names in
    (l.self ≡ record l.initial.self { marks = l.self.marks; anchors = l.self.anchors })
    × (marked_from n b l.k names l.initial.self.marks ≡ went_back n b names l.round (steps_of l.self))
    × (l.self.anchors + (l.round + 1) / 2 ≤ l.k + 1)
