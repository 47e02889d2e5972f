use Rattle.std.proofs.Common.{◌≡◌, ℕ, ◌-◌, sym, ap, ◌∙◌, arith}
use Rattle.order_theory.specs.Tables.{one_row, went_back}
use Rattle.order_theory.proofs.Steps.{back_none, back_more}
use Rattle.order.specs.Marks.{steps_of}
use Rattle.order.proofs.Grids.{same_but_steps}
use Rattle.order.proofs.grid.Grid.mark_from.Goals as goal

pub loop-round-preserved : goal.loop-round-preserved
loop-round-preserved g c =
    let what = g.B.Library.what in
    let b = what c.args.self.now.book.now in
    let n = c.args.self.now.width.places in
    let names = c.args.self.now.names in
    let t = c.loop-round.self in
    let r = c.loop-round.round in
    let s = c.loop-round.invariant.0 in
    let after = c.one_row.ensures in
    let u = after.steps ∙ ap (λ v. one_row v.width.places (what v.book.now) v.names (r - 1) (steps_of t)) s in (
      after.rest ∙ same_but_steps c.args.self.now s _ _,
      c.loop-round.invariant.1 ∙ (back_more n b names r (steps_of t) (omega arith) ∙ ap (λ v. went_back n b names (r - 1) v) (sym u)),
      omega arith,
    )

pub returns : goal.returns
returns g c =
    let b = g.B.Library.what c.args.self.now.book.now in
    let n = c.args.self.now.width.places in
    let names = c.args.self.now.names in
    let m = steps_of c.loop-round.self in
    let z : c.loop-round.round ≡ 0 = omega arith in
    let r = c.loop-round.invariant.1 ∙ (ap (λ (k : ℕ). went_back n b names k m) z ∙ back_none n b names m) in
    record { steps = sym r; rest = c.loop-round.invariant.0 }
