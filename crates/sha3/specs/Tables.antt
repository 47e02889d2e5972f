-- Where the numbers of rho and iota come from: the standard's own definitions of them, computed.

use Rattle.std.specs.Prelude.{◌≡◌, ℕ, zero, suc, ◌+◌, ◌*◌, ◌/◌, ◌%◌, ◌^◌, cond, List, [], ◌∷◌, replicate, bit_xor, nat_le, slice_set}
use Rattle.sha3.specs.Keccak.{offsets, round_constants}

-- Algorithm 2, step 3: n steps of the walk from lane (x, y) at step t, each of which gives a lane its offset.
unfoldable pub walk : ℕ → ℕ → ℕ → ℕ → List ℕ → List ℕ
walk zero t x y table = table
walk (suc n) t x y table = walk n (t + 1) y ((2 * x + 3 * y) % 5) (slice_set table (x + 5 * y) ((t + 1) * (t + 2) / 2 % 64))

unfoldable pub walked_offsets : List ℕ
walked_offsets = walk 24 0 1 0 (replicate 25 0)

-- Algorithm 5: the register R of 8 bits after n steps, its bit R[0] the lowest. The bit that leaves is added at 0, 4, 5 and 6.
unfoldable pub register : ℕ → ℕ
register zero = 1
register (suc n) = cond (nat_le 128 (register n)) (bit_xor (2 * register n) 0x171) (2 * register n)

unfoldable pub rc : ℕ → ℕ
rc t = register (t % 255) % 2

-- Algorithm 6, steps 2 and 3: the constant of round i has bit 2 ^ j - 1 from rc (j + 7 i), for j from 0 to 6.
unfoldable pub defined_constant : ℕ → ℕ
defined_constant i =
    rc (7 * i) * 2 ^ 0 + rc (1 + 7 * i) * 2 ^ 1 + rc (2 + 7 * i) * 2 ^ 3 + rc (3 + 7 * i) * 2 ^ 7
    + rc (4 + 7 * i) * 2 ^ 15 + rc (5 + 7 * i) * 2 ^ 31 + rc (6 + 7 * i) * 2 ^ 63

-- The constants of n rounds from round i on.
unfoldable pub defined_constants : ℕ → ℕ → List ℕ
defined_constants zero i = []
defined_constants (suc n) i = defined_constant i ∷ defined_constants n (i + 1)

-- The tables in use are these.
abbrev pub TablesStand : Type 0
TablesStand = (offsets ≡ walked_offsets) × (round_constants ≡ defined_constants 24 0)
