-- Keccak-f[1600] as FIPS 202 defines it in section 3, on lanes: a state is the list of its 25 lanes, each a number below 2 ^ 64.
-- Lane (x, y) stands at x + 5 y, and bit z of lane (x, y) is the standard's bit A[x, y, z], so its coefficient is 2 ^ z.

use Rattle.std.specs.Prelude.{ℕ, zero, suc, ◌+◌, ◌-◌, ◌*◌, ◌/◌, ◌%◌, ◌^◌, List, [], ◌∷◌, bit_and, bit_or, bit_xor, slice_index, slice_set}

-- Lane (x, y), both taken modulo 5.
abbrev pub lane : List ℕ → ℕ → ℕ → ℕ
lane a x y = slice_index a (x % 5 + 5 * (y % 5))

-- The state whose lane (x, y) is f x y.
abbrev pub lanes : (ℕ → ℕ → ℕ) → List ℕ
lanes f =
    f 0 0 ∷ f 1 0 ∷ f 2 0 ∷ f 3 0 ∷ f 4 0 ∷
    f 0 1 ∷ f 1 1 ∷ f 2 1 ∷ f 3 1 ∷ f 4 1 ∷
    f 0 2 ∷ f 1 2 ∷ f 2 2 ∷ f 3 2 ∷ f 4 2 ∷
    f 0 3 ∷ f 1 3 ∷ f 2 3 ∷ f 3 3 ∷ f 4 3 ∷
    f 0 4 ∷ f 1 4 ∷ f 2 4 ∷ f 3 4 ∷ f 4 4 ∷ []

-- A lane turned by n places: bit z comes from bit z - n, modulo 64.
abbrev pub turned : ℕ → ℕ → ℕ
turned v n = bit_or ((v * 2 ^ (n % 64)) % 2 ^ 64) (v / 2 ^ ((64 - n % 64) % 64))

-- Every bit of a lane flipped.
abbrev pub flipped : ℕ → ℕ
flipped v = (2 ^ 64 - 1) - v

-- The parity of column x, for all z at once: the standard's C[x, z].
abbrev pub parity : List ℕ → ℕ → ℕ
parity a x = bit_xor (bit_xor (bit_xor (bit_xor (lane a x 0) (lane a x 1)) (lane a x 2)) (lane a x 3)) (lane a x 4)

-- Algorithm 1. The standard's D[x, z] is C[x - 1, z] ⊕ C[x + 1, z - 1].
abbrev pub theta : List ℕ → List ℕ
theta a = lanes (λ x y. bit_xor (lane a x y) (bit_xor (parity a (x + 4)) (turned (parity a (x + 1)) 1)))

-- The offsets of rho, lane by lane, modulo 64: «walked_offsets» has where they come from.
abbrev pub offsets : List ℕ
offsets =
    0 ∷ 1 ∷ 62 ∷ 28 ∷ 27 ∷
    36 ∷ 44 ∷ 6 ∷ 55 ∷ 20 ∷
    3 ∷ 10 ∷ 43 ∷ 25 ∷ 39 ∷
    41 ∷ 45 ∷ 15 ∷ 21 ∷ 8 ∷
    18 ∷ 2 ∷ 61 ∷ 56 ∷ 14 ∷ []

-- Algorithm 2.
abbrev pub rho : List ℕ → List ℕ
rho a = lanes (λ x y. turned (lane a x y) (lane offsets x y))

-- Algorithm 3.
abbrev pub pi : List ℕ → List ℕ
pi a = lanes (λ x y. lane a (x + 3 * y) x)

-- Algorithm 4.
abbrev pub chi : List ℕ → List ℕ
chi a = lanes (λ x y. bit_xor (lane a x y) (bit_and (flipped (lane a (x + 1) y)) (lane a (x + 2) y)))

-- Algorithm 6, with the round's constant.
abbrev pub iota : List ℕ → ℕ → List ℕ
iota a constant = slice_set a 0 (bit_xor (slice_index a 0) constant)

-- The constants of the 24 rounds: «defined_constants» has where they come from.
abbrev pub round_constants : List ℕ
round_constants =
    0x0000_0000_0000_0001 ∷ 0x0000_0000_0000_8082 ∷ 0x8000_0000_0000_808a ∷ 0x8000_0000_8000_8000 ∷
    0x0000_0000_0000_808b ∷ 0x0000_0000_8000_0001 ∷ 0x8000_0000_8000_8081 ∷ 0x8000_0000_0000_8009 ∷
    0x0000_0000_0000_008a ∷ 0x0000_0000_0000_0088 ∷ 0x0000_0000_8000_8009 ∷ 0x0000_0000_8000_000a ∷
    0x0000_0000_8000_808b ∷ 0x8000_0000_0000_008b ∷ 0x8000_0000_0000_8089 ∷ 0x8000_0000_0000_8003 ∷
    0x8000_0000_0000_8002 ∷ 0x8000_0000_0000_0080 ∷ 0x0000_0000_0000_800a ∷ 0x8000_0000_8000_000a ∷
    0x8000_0000_8000_8081 ∷ 0x8000_0000_0000_8080 ∷ 0x0000_0000_8000_0001 ∷ 0x8000_0000_8000_8008 ∷ []

-- Section 3.3: Rnd(A, ir).
unfoldable pub keccak_round : List ℕ → ℕ → List ℕ
keccak_round a constant = iota (chi (pi (rho (theta a)))) constant

-- The first n rounds.
unfoldable pub rounds : ℕ → List ℕ → List ℕ
rounds zero a = a
rounds (suc n) a = keccak_round (rounds n a) (slice_index round_constants n)

-- Algorithm 7 with 24 rounds: Keccak-f[1600].
abbrev pub keccak : List ℕ → List ℕ
keccak a = rounds 24 a
