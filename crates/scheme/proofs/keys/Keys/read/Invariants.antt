use Rattle.std.proofs.Common.{◌≡◌, map, vec_items}
use Rattle.scheme.specs.Keys.{parsed, left}
use Rattle.scheme.proofs.Committee.{added}
use Rattle.scheme.proofs.keys.Keys.read.Given as goal

-- The secrets read so far stand before those of the lines that are left.
abbrev pub invariant-loop-secret : goal.invariant-loop-secret
invariant-loop-secret l =
    (goal.iterator-loop-secret).can_next l.secret-iterator
    × (goal.iterator-loop-secret).is_finite l.secret-iterator
    × (parsed 1 l.members l.text ≡ added (map (λ secret. secret.0) (vec_items l.secrets)) (left l.secret-iterator))
