-- A message that is fed in pieces has the digest of the whole.

use Rattle.std.specs.Prelude.{◌≡◌, ℕ, ◌<◌, ◌≤◌, List, [], ◌∷◌, ◌++◌}
use Rattle.sha3.specs.Keccak.{keccak}
use Rattle.sha3.specs.Sponge.{squeezed, sponge, zeros}
use Rattle.sha3.specs.Feeding.{feeding, closed}

-- The pieces in their order as one message.
unfoldable pub joined : List (List ℕ) → List ℕ
joined [] = []
joined (p ∷ ps) = p ++ joined ps

-- A sponge that is fed one piece after the other.
unfoldable pub feedings : ℕ → List ℕ × ℕ → List (List ℕ) → List ℕ × ℕ
feedings r f [] = f
feedings r f (p ∷ ps) = feedings r (feeding r f p) ps

-- What it gives in the end: n bytes, once its last block is closed and the state permuted.
unfoldable pub ended : ℕ → ℕ → ℕ → List ℕ × ℕ → List ℕ
ended r suffix n f = squeezed r n (keccak (closed r suffix f))

-- However a message is cut, its pieces lead to the definition's bytes for the whole.
abbrev pub AnyPieces : Type 0
AnyPieces =
    (r suffix n : ℕ) (pieces : List (List ℕ)) → 0 < r → r ≤ 200 → suffix < 128
    → ended r suffix n (feedings r (zeros, 0) pieces) ≡ sponge r suffix n (joined pieces)
