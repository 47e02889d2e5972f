-- Bytes and their hexadecimal digits, two by two. Assumes nothing.
use Rattle.std.proofs.Common.{◌≡◌, ℕ, ◌+◌, ◌*◌, ◌/◌, ◌%◌, ◌<◌, ◌≤◌, T, ltb, List, [], ◌∷◌, ◌++◌, length, sym, refl, ap, ◌∙◌, ap₂, arith, ltb→lt, lt→ltb, Some, None, Option}
use Rattle.std.proofs.lemmas.Bool.Decides.{nat_tests}
use Rattle.lines.proofs.Both.{and_left, and_right, both}
use Rattle.lines.specs.Hex.{digit_of, character_of, paired, byte_of, before, decoded, hex_of, all_bytes, Spells}

-- the digits of more bytes stand behind those of the first
pub hex-++ : (xs ys : List ℕ) → hex_of (xs ++ ys) ≡ hex_of xs ++ hex_of ys
unfolding hex_of
hex-++ [] ys = refl
hex-++ (x ∷ xs) ys = ap (λ l. character_of (x / 16) ∷ character_of (x % 16) ∷ l) (hex-++ xs ys)

hex-length : (bytes : List ℕ) → length (hex_of bytes) ≡ 2 * length bytes
unfolding hex_of
hex-length [] = refl
hex-length (b ∷ bs) = let h = hex-length bs in omega arith

-- digits that write some bytes are two or more, and not one over
pub spelled_even : (digits more : List ℕ) → Spells digits more → (2 ≤ length digits) × (length digits % 2 ≡ 0)
spelled_even digits more s = let e = ap length s.is in let h = hex-length more in let k = s.some in (omega arith, omega arith)

-- ---- what the digits write is what is decoded of them
digit_back : (c n : ℕ) → digit_of c ≡ Some n → (n < 16) × (character_of n ≡ c)
digit_back c n e = grind (arith, nat_tests)

digit_of_character : (n : ℕ) → n < 16 → digit_of (character_of n) ≡ Some n
digit_of_character n h = grind (arith, nat_tests)

byte_written : (b : ℕ) → b < 256 → byte_of (character_of (b / 16)) (character_of (b % 16)) ≡ Some b
byte_written b h =
    ap₂ paired (digit_of_character (b / 16) (omega arith)) (digit_of_character (b % 16) (omega arith))
    ∙ ap (λ n. Some n) (let whole : 16 * (b / 16) + b % 16 ≡ b = omega arith in whole)

hex_decoded : (bytes : List ℕ) → T (all_bytes bytes) → decoded (hex_of bytes) ≡ Some bytes
unfolding hex_of all_bytes decoded
hex_decoded [] p = refl
hex_decoded (b ∷ bs) p =
    ap₂ before (byte_written b (ltb→lt b 256 (and_left (ltb b 256) (all_bytes bs) p))) (hex_decoded bs (and_right (ltb b 256) (all_bytes bs) p))

pub spelled_decoded : (digits bytes : List ℕ) → Spells digits bytes → decoded digits ≡ Some bytes
spelled_decoded digits bytes s = ap decoded (sym s.is) ∙ hex_decoded bytes s.all

-- digits write one list of bytes at most
pub spells_one : (digits xs ys : List ℕ) → Spells digits xs → Spells digits ys → xs ≡ ys
spells_one digits xs ys s t =
    let one = spelled_decoded digits xs s in
    let other = spelled_decoded digits ys t in
    cc

byte_read : (high low b : ℕ) → byte_of high low ≡ Some b → (b < 256) × (character_of (b / 16) ≡ high) × (character_of (b % 16) ≡ low)
byte_read high low b e = go (digit_of high) (digit_of low) (digit_back high) (digit_back low) e
  where
    go : (h l : Option ℕ) → ((n : ℕ) → h ≡ Some n → (n < 16) × (character_of n ≡ high)) → ((n : ℕ) → l ≡ Some n → (n < 16) × (character_of n ≡ low)) →
        paired h l ≡ Some b → (b < 256) × (character_of (b / 16) ≡ high) × (character_of (b % 16) ≡ low)
    go None l p q e = cc
    go (Some h) None p q e = cc
    go (Some h) (Some l) p q e =
        let first = p h refl in
        let second = q l refl in
        let is : 16 * h + l ≡ b = cc in
        let of_high : h ≡ b / 16 = omega arith in
        let of_low : l ≡ b % 16 = omega arith in
        (omega arith, ap character_of (sym of_high) ∙ first.1, ap character_of (sym of_low) ∙ second.1)

pub decoded_written : (digits bytes : List ℕ) → decoded digits ≡ Some bytes → (hex_of bytes ≡ digits) × T (all_bytes bytes)
unfolding decoded hex_of all_bytes
decoded_written [] [] e = (refl, tt)
decoded_written [] (b ∷ bs) e = cc
decoded_written (x ∷ []) bytes e = cc
decoded_written (x ∷ y ∷ rest) bytes e = go (byte_of x y) (decoded rest) (byte_read x y) (decoded_written rest) bytes e
  where
    go : (o : Option ℕ) (r : Option (List ℕ)) → ((b : ℕ) → o ≡ Some b → (b < 256) × (character_of (b / 16) ≡ x) × (character_of (b % 16) ≡ y)) →
        ((bs : List ℕ) → r ≡ Some bs → (hex_of bs ≡ rest) × T (all_bytes bs)) →
        (bytes : List ℕ) → before o r ≡ Some bytes → (hex_of bytes ≡ x ∷ y ∷ rest) × T (all_bytes bytes)
    go None r p q bytes e = cc
    go (Some b) None p q bytes e = cc
    go (Some b) (Some bs) p q [] e = cc
    go (Some b) (Some bs) p q (c ∷ cs) e =
        let same : b ≡ c = cc in
        let others : bs ≡ cs = cc in
        let one = p c (ap (λ n. Some n) same) in
        let more = q cs (ap (λ l. Some l) others) in
        (ap₂ (λ u v. u ∷ v) one.1 (ap₂ (λ u v. u ∷ v) one.2 more.0), both (ltb c 256) (all_bytes cs) (lt→ltb c 256 one.0) more.1)

pub decoded_spells : (digits bytes : List ℕ) → 0 < length digits → decoded digits ≡ Some bytes → Spells digits bytes
decoded_spells digits bytes some e =
    let written = decoded_written digits bytes e in
    let n = hex-length bytes in
    let m = ap length written.0 in
    record { some = omega arith; all = written.1; is = written.0 }
