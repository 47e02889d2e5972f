use Rattle.std.proofs.Common.{ℕ, List, ◌++◌, vec_items, ap, ◌∙◌, arith}
use Rattle.lines.specs.Words.{joined}
use Rattle.rehearsal.specs.Words.{text_for}
use Rattle.rehearsal.proofs.Wording.{line_first, line_next}
use Rattle.rehearsal.proofs.committee.Committee.line_of.Goals as goal
use Rattle.rehearsal.proofs.committee.Committee.line_of.Goals.{then-i-gt0+in_ok-push, else-i-gt0}

pub loop-i-init : goal.loop-i-init
unfolding joined
loop-i-init c = c.new-line.ensures.items

pub loop-i-preserved : goal.loop-i-preserved
loop-i-preserved c =
    let text : ℕ → List ℕ = λ x. text_for x c.args.self.now.words in
    let mid = vec_items c.if-i-gt0.line in
    let more = c.in_ok-extend_from_slice.ensures.items ∙ ap (λ (l : List ℕ). mid ++ l) c.text_of.ensures in
    elim c.if-i-gt0.branch [
      | then-i-gt0+in_ok-push w ↦
          line_next text c.args.names.now c.loop-i.i c.loop-i-test.true (vec_items c.loop-i.line) mid (vec_items c.extend_from_slice.new.self)
          c.loop-i.invariant more w.if-i-gt0.true (ap vec_items w.line-is ∙ w.in_ok-push.ensures.items)
      | else-i-gt0 w ↦
          line_first text c.args.names.now c.loop-i.i c.loop-i-test.true (vec_items c.loop-i.line) mid (vec_items c.extend_from_slice.new.self)
          c.loop-i.invariant more (omega (arith, w.if-i-gt0.false)) (ap vec_items w.line-is)
    ]
