-- Bytes as lower-case hexadecimal digits, two for each byte, the higher first. Assumes nothing.
use Rattle.std.specs.Prelude.{◌≡◌, ℕ, ◌+◌, ◌-◌, ◌*◌, ◌/◌, ◌%◌, ◌<◌, Bool, true, cond, ◌&&◌, T, List, [], ◌∷◌, length, slice_index, Some, None, Option, ◌==◌, nat_lt}

-- the value of a digit: 0 to 9 are 48 to 57, and a to f are 97 to 102
abbrev pub digit_of : ℕ → Option ℕ
digit_of c =
    cond (nat_lt c 48) None (cond (nat_lt c 58) (Some (c - 48)) (cond (nat_lt c 97) None (cond (nat_lt c 103) (Some (c - 87)) None)))

abbrev pub Small : Option ℕ → Type 0
Small None = Unit {0}
Small (Some d) = d < 16

-- the digit of a value below 16
abbrev pub character_of : ℕ → ℕ
character_of v = cond (nat_lt v 10) (48 + v) (87 + v)

abbrev pub paired : Option ℕ → Option ℕ → Option ℕ
paired None l = None
paired (Some h) None = None
paired (Some h) (Some l) = Some (16 * h + l)

-- the byte that two digits write
abbrev pub byte_of : ℕ → ℕ → Option ℕ
byte_of high low = paired (digit_of high) (digit_of low)

abbrev pub before : Option ℕ → Option (List ℕ) → Option (List ℕ)
before None o = None
before (Some b) None = None
before (Some b) (Some bs) = Some (b ∷ bs)

-- the bytes that digits write: an even number of digits and nothing else, none included
unfoldable pub decoded : List ℕ → Option (List ℕ)
decoded [] = Some []
decoded (x ∷ []) = None
decoded (x ∷ y ∷ rest) = before (byte_of x y) (decoded rest)

-- the same of digits that stand two by two
unfoldable pub pairs_decoded : List (List ℕ) → Option (List ℕ)
pairs_decoded [] = Some []
pairs_decoded (pair ∷ pairs) = before (byte_of (slice_index pair 0) (slice_index pair 1)) (pairs_decoded pairs)

-- the n bytes that exactly 2 n digits write
abbrev pub array_of : ℕ → List ℕ → Option (List ℕ)
array_of n digits = cond (length digits == 2 * n) (decoded digits) None

-- the digits of some bytes
unfoldable pub hex_of : List ℕ → List ℕ
hex_of [] = []
hex_of (b ∷ bs) = character_of (b / 16) ∷ character_of (b % 16) ∷ hex_of bs

-- each is below 256
unfoldable pub all_bytes : List ℕ → Bool
all_bytes [] = true
all_bytes (b ∷ bs) = nat_lt b 256 && all_bytes bs

-- the digits write these bytes, of which there is one or more
pub record Spells (digits bytes : List ℕ) : Type 0 where
  pub some : 0 < length bytes
  pub all : T (all_bytes bytes)
  pub is : hex_of bytes ≡ digits
