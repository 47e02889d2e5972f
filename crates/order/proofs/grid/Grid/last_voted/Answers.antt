use Rattle.std.proofs.Common.{◌≡◌, ℕ, sym, ap, ◌∙◌, arith}
use Rattle.order_theory.specs.Tables.{last_voted_at}
use Rattle.order_theory.proofs.Steps.{voted_none, voted_here, voted_not}
use Rattle.order.proofs.grid.Grid.last_voted.Goals as goal

pub returns-then-voted_at : goal.returns-then-voted_at
returns-then-voted_at g c =
    let t = c.args.self.now in
    let b = g.B.Library.what t.book.now in
    let e = voted_here t.faults.f t.width.places b t.names t.marks c.loop-k.k (omega arith) (sym c.if-voted_at.ensures) in
    record { last = sym (c.loop-k.invariant ∙ e); below = omega arith }

pub loop-k-preserved : goal.loop-k-preserved
loop-k-preserved g c =
    let t = c.args.self.now in
    let b = g.B.Library.what t.book.now in
    c.loop-k.invariant ∙ voted_not t.faults.f t.width.places b t.names t.marks c.loop-k.k (omega arith) (sym c.if-voted_at.ensures)

pub returns : goal.returns
returns g c =
    let t = c.args.self.now in
    let b = g.B.Library.what t.book.now in
    let z : c.loop-k.k ≡ 0 = omega arith in
    let d = ap (λ (k : ℕ). last_voted_at t.faults.f t.width.places b t.names t.marks k) z in
    record { last = sym (c.loop-k.invariant ∙ (d ∙ voted_none t.faults.f t.width.places b t.names t.marks)); below = tt }
