-- A sponge that takes a message byte by byte: the state, and how many bytes of the current block it has taken.
-- `Holds` is what the hashers say of themselves: the bytes that they were fed.

use Rattle.std.specs.Prelude.{◌≡◌, ℕ, ◌+◌, ◌-◌, cond, List, [], ◌∷◌, ◌++◌, ◌==◌}
use Rattle.sha3.specs.Keccak.{keccak}
use Rattle.sha3.specs.Sponge.{add_byte, sponge, zeros}

-- One byte: added to the state, which is permuted once its block is full.
unfoldable pub step : ℕ → List ℕ × ℕ → ℕ → List ℕ × ℕ
step r f b = cond (f.1 + 1 == r) (keccak (add_byte f.0 f.1 b), 0) (add_byte f.0 f.1 b, f.1 + 1)

unfoldable pub feeding : ℕ → List ℕ × ℕ → List ℕ → List ℕ × ℕ
feeding r f [] = f
feeding r f (b ∷ bs) = feeding r (step r f b) bs

-- The state once the last block is full: the suffix after the message's last byte, and the last bit of the padding at the block's end.
abbrev pub closed : ℕ → ℕ → List ℕ × ℕ → List ℕ
closed r suffix f = add_byte (add_byte f.0 f.1 suffix) (r - 1) 128

-- A sponge of rate r, with this state and this many bytes of a block, was fed these bytes and no others.
unfoldable pub Holds : ℕ → List ℕ → ℕ → List ℕ → Type 0
Holds r s i fed = (s, i) ≡ feeding r (zeros, 0) fed

-- Fed these bytes on top of what it holds, the sponge has the second state.
abbrev pub Grown : ℕ → List ℕ → ℕ → List ℕ → ℕ → List ℕ → Type 0
Grown r s i t j bytes = (fed : List ℕ) → Holds r s i fed → Holds r t j (fed ++ bytes)

-- These are the first n bytes that the definition gives for what the sponge holds.
abbrev pub Digest : ℕ → ℕ → List ℕ → ℕ → ℕ → List ℕ → Type 0
Digest r suffix s i n out = (fed : List ℕ) → Holds r s i fed → out ≡ sponge r suffix n fed
