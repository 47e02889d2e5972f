use Rattle.std.proofs.Common.{◌≡◌, ◌+◌, ◌/◌}
use Rattle.order_theory.specs.Tables.{last_voted_at}
use Rattle.order.proofs.grid.Grid.last_voted.Given as goal

-- of the rounds that are passed none has the votes
abbrev pub invariant-loop-k : goal.invariant-loop-k
invariant-loop-k g l =
    let t = l.self in
    let b = g.B.Library.what t.book.now in
    last_voted_at t.faults.f t.width.places b t.names t.marks (l.last / 2 + 1) ≡ last_voted_at t.faults.f t.width.places b t.names t.marks l.k
