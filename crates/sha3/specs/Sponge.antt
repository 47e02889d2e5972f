-- The sponge of FIPS 202, section 4, and its padding, section 5.1, on bytes; the functions of section 6 are its instances.
-- A string of the standard is a list of bytes, the lowest bit of each byte first; byte i of the state's string is byte i % 8,
-- the lowest first, of lane i / 8.

use Rattle.std.specs.Prelude.{ℕ, zero, suc, ◌+◌, ◌-◌, ◌*◌, ◌/◌, ◌%◌, ◌^◌, List, [], ◌∷◌, ◌++◌, length, take, drop, replicate, bit_xor, slice_index, slice_set}
use Rattle.sha3.specs.Keccak.{keccak}

-- The state with b added to byte i of its string.
abbrev pub add_byte : List ℕ → ℕ → ℕ → List ℕ
add_byte s i b = slice_set s (i / 8) (bit_xor (slice_index s (i / 8)) (b * 2 ^ (8 * (i % 8))))

-- The state with bytes added to its string from byte i on.
unfoldable pub add_bytes : List ℕ → ℕ → List ℕ → List ℕ
add_bytes s i [] = s
add_bytes s i (b ∷ bs) = add_bytes (add_byte s i b) (i + 1) bs

-- The eight bytes of a lane, the lowest first.
abbrev pub lane_bytes : ℕ → List ℕ
lane_bytes v =
    v % 256 ∷ v / 256 % 256 ∷ v / 65536 % 256 ∷ v / 16777216 % 256
    ∷ v / 4294967296 % 256 ∷ v / 1099511627776 % 256 ∷ v / 281474976710656 % 256 ∷ v / 72057594037927936 % 256 ∷ []

-- The state's string.
unfoldable pub bytes_of : List ℕ → List ℕ
bytes_of [] = []
bytes_of (v ∷ vs) = lane_bytes v ++ bytes_of vs

-- pad10*1 after the suffix of a function, in q bytes, 1 ≤ q. The suffix byte has the domain's bits and the first 1 of the padding
-- from its lowest bit on; the last 1 is the highest bit of the last byte.
unfoldable pub closing : ℕ → ℕ → List ℕ
closing suffix zero = []
closing suffix (suc zero) = (suffix + 128) ∷ []
closing suffix (suc (suc q)) = suffix ∷ (replicate q 0 ++ (128 ∷ []))

-- The message with its suffix and padding: a whole number of blocks of r bytes.
unfoldable pub padded : ℕ → ℕ → List ℕ → List ℕ
padded r suffix m = m ++ closing suffix (r - length m % r)

-- Algorithm 8, steps 5 and 6: n blocks of r bytes, each added to the first r bytes of the state, and permuted.
unfoldable pub absorb : ℕ → ℕ → List ℕ → List ℕ → List ℕ
absorb r zero p s = s
absorb r (suc n) p s = absorb r n (drop r p) (keccak (add_bytes s 0 (take r p)))

-- Algorithm 8, steps 7 to 10: the first r bytes of each of n states, one permutation apart.
unfoldable pub blocks : ℕ → ℕ → List ℕ → List ℕ
blocks r zero s = []
blocks r (suc n) s = take r (bytes_of s) ++ blocks r n (keccak s)

-- The first n bytes of as many blocks as hold them.
unfoldable pub squeezed : ℕ → ℕ → List ℕ → List ℕ
squeezed r n s = take n (blocks r (n / r + 1) s)

-- The state before the first block.
abbrev pub zeros : List ℕ
zeros = replicate 25 0

-- Algorithm 8: the first n bytes that the sponge of rate r gives for a message.
unfoldable pub sponge : ℕ → ℕ → ℕ → List ℕ → List ℕ
sponge r suffix n m = squeezed r n (absorb r (length (padded r suffix m) / r) (padded r suffix m) zeros)

-- Section 6.1: the bits 01, and the 1 of the padding. Section 6.2: the bits 1111, and the 1 of the padding.
abbrev pub sha3_suffix : ℕ
sha3_suffix = 0x06

abbrev pub shake_suffix : ℕ
shake_suffix = 0x1f

-- SHA3 with digests of n bytes: twice as many bytes of the state are the capacity, and the others are the rate.
abbrev pub sha3_rate : ℕ → ℕ
sha3_rate n = 200 - 2 * n

abbrev pub sha3 : ℕ → List ℕ → List ℕ
sha3 n m = sponge (sha3_rate n) sha3_suffix n m

abbrev pub sha3_256 : List ℕ → List ℕ
sha3_256 m = sponge 136 sha3_suffix 32 m

abbrev pub sha3_512 : List ℕ → List ℕ
sha3_512 m = sponge 72 sha3_suffix 64 m

abbrev pub shake128 : ℕ → List ℕ → List ℕ
shake128 n m = sponge 168 shake_suffix n m

abbrev pub shake256 : ℕ → List ℕ → List ℕ
shake256 n m = sponge 136 shake_suffix n m
