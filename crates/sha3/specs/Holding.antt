-- What a hasher holds: the bytes that it was fed, one after the other.

use Rattle.std.specs.Prelude.{◌≡◌, ℕ, List}
use Rattle.sha3.specs.Sponge.{sha3_rate, sha3_suffix}
use Rattle.sha3.specs.Feeding.{Holds as HoldsAt}
use Rattle.sha3.specs.declared.sponge.Sponge.{Sponge}

-- A sponge of this rate and suffix that was fed these bytes.
unfoldable pub Fed : ℕ → ℕ → Sponge → List ℕ → Type 0
Fed rate suffix p fed = (p.rate ≡ rate) × (p.suffix ≡ suffix) × HoldsAt rate p.state p.at fed

-- The sponge of a hasher whose digests have n bytes.
unfoldable pub Holds : ℕ → Sponge → List ℕ → Type 0
Holds n p fed = Fed (sha3_rate n) sha3_suffix p fed
