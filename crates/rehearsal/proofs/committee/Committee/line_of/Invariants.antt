use Rattle.std.proofs.Common.{◌≡◌, ℕ, map, take, vec_items}
use Rattle.lines.specs.Words.{joined}
use Rattle.rehearsal.specs.Words.{text_for}
use Rattle.rehearsal.proofs.committee.Committee.line_of.Given as goal

abbrev pub invariant-loop-i : goal.invariant-loop-i
invariant-loop-i l = vec_items l.line ≡ joined (map (λ (x : ℕ). text_for x l.self.words) (take l.i l.names))
