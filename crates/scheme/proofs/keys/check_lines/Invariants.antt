use Rattle.std.proofs.Common.{◌≡◌, ℕ, List}
use Rattle.scheme.specs.Keys.{parsed, left}
use Rattle.scheme.proofs.Committee.{added}
use Rattle.scheme.proofs.keys.check_lines.Given as goal

-- The lines so far gave some secrets, which stand before those of the lines that are left.
abbrev pub invariant-loop-secret : goal.invariant-loop-secret
invariant-loop-secret l =
    (goal.iterator-loop-secret).can_next l.secret-iterator
    × (goal.iterator-loop-secret).is_finite l.secret-iterator
    × (done : List (List ℕ)) × (parsed 1 l.members l.text ≡ added done (left l.secret-iterator))
