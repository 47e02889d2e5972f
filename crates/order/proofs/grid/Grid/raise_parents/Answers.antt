use Rattle.std.proofs.Common.{◌≡◌, ℕ, List, [], ◌∷◌, sym, ap, ◌∙◌}
use Rattle.model.specs.Blocks.{Book}
use Rattle.order_theory.specs.Tables.{place_of, raised, raised_all}
use Rattle.order.proofs.Grids.{same_but_marks, marks_too}
use Rattle.order.proofs.grid.Grid.raise_parents.Goals as goal

first :
    (n : ℕ) (b : Book) (m : ℕ) (xs : List ℕ) (p : ℕ) (ys marks : List ℕ) → xs ≡ p ∷ ys →
    raised_all n b m xs marks ≡ raised_all n b m ys (raised marks (place_of n b p) m)
unfolding raised_all
first n b m xs p ys marks e = ap (λ (l : List ℕ). raised_all n b m l marks) e

none : (n : ℕ) (b : Book) (m : ℕ) (xs marks : List ℕ) → xs ≡ [] → raised_all n b m xs marks ≡ marks
unfolding raised_all
none n b m xs marks e = ap (λ (l : List ℕ). raised_all n b m l marks) e

pub loop-parent-preserved : goal.loop-parent-preserved
loop-parent-preserved g c =
    let what = g.B.Library.what in
    let b = what c.args.self.now.book.now in
    let n = c.args.self.now.width.places in
    let t = c.loop-parent.self in
    let s = c.loop-parent.invariant.0 in
    let p = c.place_of-place.ensures ∙ ap (λ v. place_of v.width.places (what v.book.now) c.in-Some.parent) s in
    let marked = c.raise.ensures ∙ ap (λ (q : ℕ). raised t.marks q c.args.mark) p in (
      same_but_marks c.args.self.now s c.raise.new.marks,
      c.loop-parent.invariant.1
          ∙ (first n b c.args.mark _ c.in-Some.parent _ t.marks c.in-Some.ensures.steps
          ∙ ap (λ m. raised_all n b c.args.mark c.next.new.self m) (sym marked)),
    )

pub returns : goal.returns
returns g c =
    let b = g.B.Library.what c.args.self.now.book.now in
    let n = c.args.self.now.width.places in
    let t = c.loop-parent.self in
    let e = sym (c.loop-parent.invariant.1 ∙ none n b c.args.mark _ t.marks c.in-None.ensures.steps.0) in
    c.loop-parent.invariant.0 ∙ marks_too c.args.self.now e
