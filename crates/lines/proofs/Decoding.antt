-- The loops that read and write hexadecimal digits, turn by turn. Assumes nothing.
use Rattle.std.proofs.Common.{◌≡◌, ℕ, suc, zero, ◌+◌, ◌*◌, ◌/◌, ◌%◌, ◌<◌, ◌≤◌, List, [], ◌∷◌, ◌++◌, length, get_or, drop, Some, None, Option, sym, refl, ap, ◌∙◌, append_assoc, append-nil, arith}
use Rattle.std.proofs.lemmas.List.{drop_more, drop_all}
use Rattle.std.specs.Simd.{first_chunks}
use Rattle.lines.specs.Hex.{character_of, byte_of, before, decoded, pairs_decoded, hex_of}

-- digits that are cut into pairs write what the pairs write
pub decoded_by_pairs : (digits : List ℕ) (k : ℕ) → length digits ≡ 2 * k → decoded digits ≡ pairs_decoded (first_chunks 2 k digits)
unfolding decoded pairs_decoded
decoded_by_pairs [] zero e = refl
decoded_by_pairs [] (suc k) e = absurd (omega arith)
decoded_by_pairs (x ∷ []) zero e = absurd (omega arith)
decoded_by_pairs (x ∷ []) (suc k) e = absurd (omega arith)
decoded_by_pairs (x ∷ y ∷ rest) zero e = absurd (omega arith)
decoded_by_pairs (x ∷ y ∷ rest) (suc k) e = ap (before (byte_of x y)) (decoded_by_pairs rest k (omega arith))

-- as the code cuts them
pub decoded_by_chunks : (digits : List ℕ) (pairs : List (List ℕ)) → pairs ≡ first_chunks 2 (length digits / 2) digits → length digits % 2 ≡ 0 → decoded digits ≡ pairs_decoded pairs
decoded_by_chunks digits pairs e even = decoded_by_pairs digits (length digits / 2) (omega arith) ∙ ap pairs_decoded (sym e)

before_none : (o : Option ℕ) → before o None ≡ None
before_none None = refl
before_none (Some b) = refl

-- digits of odd number write no bytes
pub decoded_odd : (digits : List ℕ) → length digits % 2 ≡ 1 → decoded digits ≡ None
unfolding decoded
decoded_odd [] h = absurd (omega arith)
decoded_odd (x ∷ []) h = refl
decoded_odd (x ∷ y ∷ rest) h =
    let fewer : length rest % 2 ≡ 1 = omega arith in
    ap (before (byte_of x y)) (decoded_odd rest fewer) ∙ before_none (byte_of x y)

-- what was read, before what is read after it
abbrev pub onto : List ℕ → Option (List ℕ) → Option (List ℕ)
onto xs None = None
onto xs (Some ys) = Some (xs ++ ys)

onto_nil : (o : Option (List ℕ)) → o ≡ onto [] o
onto_nil None = refl
onto_nil (Some ys) = refl

one_more : (xs : List ℕ) (b : ℕ) (o : Option (List ℕ)) → onto xs (before (Some b) o) ≡ onto (xs ++ b ∷ []) o
one_more xs b None = refl
one_more xs b (Some ys) = ap (λ t. Some t) (sym (append_assoc xs (b ∷ []) ys))

-- the first i pairs write these bytes
pub record Decoding (pairs : List (List ℕ)) (i : ℕ) (bytes : List ℕ) : Type 0 where
  pub whole : pairs_decoded pairs ≡ onto bytes (pairs_decoded (drop i pairs))

pub decoding_none : (pairs : List (List ℕ)) → Decoding pairs 0 []
decoding_none pairs = record { whole = onto_nil (pairs_decoded pairs) }

module _ (pairs : List (List ℕ)) (i : ℕ) (bytes : List ℕ) (within : i < length pairs) (so_far : Decoding pairs i bytes) where
  pair : List ℕ
  pair = get_or pairs i []

  next : pairs_decoded pairs ≡ onto bytes (before (byte_of (get_or pair 0 0) (get_or pair 1 0)) (pairs_decoded (drop (i + 1) pairs)))
  unfolding pairs_decoded pair
  next = so_far.whole ∙ ap (λ l. onto bytes (pairs_decoded l)) (drop_more pairs i [] within)

  pub decoding_more : (b : ℕ) → byte_of (get_or (get_or pairs i []) 0 0) (get_or (get_or pairs i []) 1 0) ≡ Some b → Decoding pairs (i + 1) (bytes ++ b ∷ [])
  unfolding pair
  decoding_more b e = record {
    whole = next ∙ ap (λ o. onto bytes (before o (pairs_decoded (drop (i + 1) pairs)))) e ∙ one_more bytes b (pairs_decoded (drop (i + 1) pairs));
  }

  pub decoding_stops : byte_of (get_or (get_or pairs i []) 0 0) (get_or (get_or pairs i []) 1 0) ≡ None → pairs_decoded pairs ≡ None
  unfolding pair
  decoding_stops e = next ∙ ap (λ o. onto bytes (before o (pairs_decoded (drop (i + 1) pairs)))) e

pub decoding_all : (pairs : List (List ℕ)) (i : ℕ) (bytes : List ℕ) → length pairs ≤ i → Decoding pairs i bytes → pairs_decoded pairs ≡ Some bytes
unfolding pairs_decoded
decoding_all pairs i bytes end d = d.whole ∙ ap (λ l. onto bytes (pairs_decoded l)) (drop_all i pairs end) ∙ ap (λ t. Some t) (append-nil bytes)

-- a turn that writes a byte's digits
pub append_more : (start digits bytes : List ℕ) (i : ℕ) → i < length bytes → start ++ hex_of bytes ≡ digits ++ hex_of (drop i bytes) →
    start ++ hex_of bytes ≡ ((digits ++ character_of (get_or bytes i 0 / 16) ∷ []) ++ character_of (get_or bytes i 0 % 16) ∷ []) ++ hex_of (drop (i + 1) bytes)
unfolding hex_of
append_more start digits bytes i h was =
    let high : ℕ = character_of (get_or bytes i 0 / 16) in
    let low : ℕ = character_of (get_or bytes i 0 % 16) in
    was
    ∙ ap (λ l. digits ++ hex_of l) (drop_more bytes i 0 h)
    ∙ sym (append_assoc (digits ++ high ∷ []) (low ∷ []) (hex_of (drop (i + 1) bytes)) ∙ append_assoc digits (high ∷ []) (low ∷ hex_of (drop (i + 1) bytes)))

pub append_all : (start digits bytes : List ℕ) (i : ℕ) → length bytes ≤ i → start ++ hex_of bytes ≡ digits ++ hex_of (drop i bytes) → digits ≡ start ++ hex_of bytes
unfolding hex_of
append_all start digits bytes i h was = sym (was ∙ ap (λ l. digits ++ hex_of l) (drop_all i bytes h) ∙ append-nil digits)
