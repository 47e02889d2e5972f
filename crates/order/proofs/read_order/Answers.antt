use Rattle.std.proofs.Common.{ℕ, ◌+◌, ◌/◌, Some, None, sym, ap, ◌∙◌}
use Rattle.order_theory.specs.Tables.{last_voted_at, marked_from, written_from}
use Rattle.order_theory.proofs.Places.{noughts}
use Rattle.order_theory.proofs.Main.{written_by_lem}
use Rattle.order.specs.Marks.{steps_of}
use Rattle.order.proofs.Grids.{entered}
use Rattle.order.proofs.read_order.Goals as goal

pub returns-in-None : goal.returns-in-None
returns-in-None g c =
    let what = g.B.Library.what in
    let f = c.args.faults.f in
    let grid = c.enter.new.self in
    let new = c.new-grid.ensures in
    let is = entered what c.args.book.now f c.args.web.now c.new-grid.result grid new.book new.faults new.width new.names new.marks c.enter.ensures in
    let n = grid.width.places in
    let rounds = c.last_round-last.result / 2 + 1 in
    let r =
    written_by_lem f (what c.args.book.now) c.args.web.now c.requires.whole c.requires.once c.requires.fits c.args.faults.few c.requires.room n
    grid.names grid.marks rounds None is.width is.names is.marks (ap (λ (k : ℕ). k / 2 + 1) c.last_round-last.ensures)
    (c.in-None.ensures.last
    ∙ (ap (λ (k : ℕ). last_voted_at k n (what grid.book.now) grid.names grid.marks rounds) is.faults
    ∙ ap (λ k. last_voted_at f n (what k) grid.names grid.marks rounds) is.same_book)) in
    record { count = ap (λ w. w.count) r; listed = ap (λ w. w.out) r }

pub returns-in-Some : goal.returns-in-Some
returns-in-Some g c =
    let what = g.B.Library.what in
    let f = c.args.faults.f in
    let k = c.in-Some.k in
    let grid = c.enter.new.self in
    let new = c.new-grid.ensures in
    let is = entered what c.args.book.now f c.args.web.now c.new-grid.result grid new.book new.faults new.width new.names new.marks c.enter.ensures in
    let n = grid.width.places in
    let rounds = c.last_round-last.result / 2 + 1 in
    let r =
    written_by_lem f (what c.args.book.now) c.args.web.now c.requires.whole c.requires.once c.requires.fits c.args.faults.few c.requires.room n
    grid.names grid.marks rounds (Some k) is.width is.names is.marks (ap (λ (k : ℕ). k / 2 + 1) c.last_round-last.ensures)
    (c.in-Some.ensures.last
    ∙ (ap (λ (k : ℕ). last_voted_at k n (what grid.book.now) grid.names grid.marks rounds) is.faults
    ∙ ap (λ k. last_voted_at f n (what k) grid.names grid.marks rounds) is.same_book)) in
    let after = c.mark_from.ensures in
    let marked = c.mark_from.new.self in
    let u = after.steps ∙ ap (λ v. marked_from n (what v) k grid.names grid.marks) is.same_book in
    let w =
    sym c.write.ensures
    ∙ (ap (λ v. written_from v (steps_of marked) (noughts 4096)) (ap (λ v. v.names) after.rest)
    ∙ (ap (λ v. written_from grid.names v (noughts 4096)) u ∙ r)) in
    record { count = ap (λ v. v.count) w; listed = ap (λ v. v.out) w }
