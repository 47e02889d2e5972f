use Rattle.std.proofs.Common.{◌≡◌, ℕ, ◌+◌, ◌-◌, sym, ap, ◌∙◌, arith}
use Rattle.order_theory.specs.Tables.{handed_on, row_handed_on}
use Rattle.order_theory.proofs.Steps.{row_none, row_more}
use Rattle.order.proofs.Grids.{same_but_marks, marks_too}
use Rattle.order.proofs.grid.Grid.hand_on_row.Goals as goal

pub loop-i-preserved : goal.loop-i-preserved
loop-i-preserved g c =
    let what = g.B.Library.what in
    let b = what c.args.self.now.book.now in
    let n = c.args.self.now.width.places in
    let names = c.args.self.now.names in
    let row = c.row-row.result in
    let i = c.loop-i.i in
    let t = c.loop-i.self in
    let s = c.loop-i.invariant.0 in
    let p =
    ap (λ v. v.marks) c.hand_on.ensures
    ∙ ap (λ v. handed_on v.width.places (what v.book.now) v.names (row + (i - 1)) t.marks) s in (
      c.hand_on.ensures ∙ (same_but_marks c.args.self.now s _ ∙ marks_too c.args.self.now (sym (ap (λ v. v.marks) c.hand_on.ensures))),
      c.loop-i.invariant.1
          ∙ (row_more n b names row i t.marks (omega arith) ∙ ap (λ m. row_handed_on n b names row (i - 1) m) (sym p)),
    )

pub returns : goal.returns
returns g c =
    let b = g.B.Library.what c.args.self.now.book.now in
    let n = c.args.self.now.width.places in
    let names = c.args.self.now.names in
    let t = c.loop-i.self in
    let z : c.loop-i.i ≡ 0 = omega arith in
    let e =
    ap (λ (r : ℕ). row_handed_on n b names r n c.args.self.now.marks) (sym c.row-row.ensures.row)
    ∙ (c.loop-i.invariant.1
    ∙ (ap (λ (k : ℕ). row_handed_on n b names c.row-row.result k t.marks) z ∙ row_none n b names c.row-row.result t.marks)) in
    c.loop-i.invariant.0 ∙ marks_too c.args.self.now (sym e)
