-- A sponge fed byte by byte: whole blocks at once, pieces one after the other, and the padding at the end.
-- It gives the state that the standard's definition has after its last block.

use Rattle.std.proofs.Common.{◌≡◌, ℕ, zero, suc, ◌+◌, ◌-◌, ◌*◌, ◌/◌, ◌%◌, ◌^◌, ◌<◌, ◌≤◌, true, false, cond, eqb, List, [], ◌∷◌, ◌++◌, length, get_or, take, drop, set, replicate, sym, refl, ap, ◌∙◌, ⊎_elim, add-zero, mod-eq_of_lt, suc-mul, add-mul, add_comm, eq-or-lt_of_le, one-mul, div-add-mod', zero-add, zero-mul, mul-div_cancel, add-one, arith, length-set, length-append, length-drop, take-append-drop, length-take-le, get_or-set_same, set-set, eq-eqb, ne_eqb}
use native.Mathlib.Nat.{add-mod_left}
use lib.ListN.{length-replicate}
use lib.Seq.{set-get_or}
use lib.Bits.{bit_xor, xor_assoc, xor_comm, xor_shifted, xor_zero_r}
use Rattle.std.proofs.lemmas.Nat.{shl_below, pow-add}
use Rattle.sha3.specs.Keccak.{keccak, keccak_round, rounds}
use Rattle.sha3.specs.Sponge.{add_byte, add_bytes, absorb, closing, padded, zeros}
use Rattle.sha3.specs.Feeding.{step, feeding, Holds}
use Rattle.sha3.proofs.Bytes.{add_bytes-++}

-- Two pieces.
pub feeding-++ : (r : ℕ) (f : List ℕ × ℕ) (xs ys : List ℕ) → feeding r f (xs ++ ys) ≡ feeding r (feeding r f xs) ys
unfolding feeding
feeding-++ r f [] ys = refl
feeding-++ r f (x ∷ xs) ys = feeding-++ r (step r f x) xs ys

step_on : (r : ℕ) (s : List ℕ) (i b : ℕ) → i + 1 < r → step r (s, i) b ≡ (add_byte s i b, i + 1)
unfolding step
step_on r s i b h = ap (λ t. cond t (keccak (add_byte s i b), 0) (add_byte s i b, i + 1)) (ne_eqb (i + 1) r (omega arith))

step_full : (r : ℕ) (s : List ℕ) (i b : ℕ) → i + 1 ≡ r → step r (s, i) b ≡ (keccak (add_byte s i b), 0)
unfolding step
step_full r s i b h = ap (λ t. cond t (keccak (add_byte s i b), 0) (add_byte s i b, i + 1)) (eq-eqb (i + 1) r h)

-- Bytes that leave the block open.
pub part : (r : ℕ) (s : List ℕ) (i : ℕ) (bs : List ℕ) → i + length bs < r → feeding r (s, i) bs ≡ (add_bytes s i bs, i + length bs)
unfolding feeding add_bytes
part r s i [] h = ap (λ k. (s, k)) (sym (add-zero i))
part r s i (b ∷ bs) h =
    let early : i + 1 < r = omega arith in
    let rest : i + 1 + length bs < r = omega arith in
    let place : i + 1 + length bs ≡ i + suc (length bs) = omega arith in
    ap (λ f. feeding r f bs) (step_on r s i b early)
    ∙ part r (add_byte s i b) (i + 1) bs rest
    ∙ ap (λ k. (add_bytes (add_byte s i b) (i + 1) bs, k)) place

-- Bytes that fill the block.
pub whole : (r : ℕ) (s : List ℕ) (i : ℕ) (bs : List ℕ) → i < r → i + length bs ≡ r → feeding r (s, i) bs ≡ (keccak (add_bytes s i bs), 0)
unfolding feeding add_bytes
whole r s i [] l h = absurd (omega arith)
whole r s i (b ∷ []) l h = step_full r s i b h
whole r s i (b ∷ b2 ∷ bs) l h =
    let early : i + 1 < r = omega arith in
    let rest : i + 1 + length (b2 ∷ bs) ≡ r = omega arith in
    ap (λ f. feeding r f (b2 ∷ bs)) (step_on r s i b early) ∙ whole r (add_byte s i b) (i + 1) (b2 ∷ bs) early rest

-- Whole blocks, as the standard absorbs them.
pub absorbed : (r n : ℕ) (p s : List ℕ) → 0 < r → length p ≡ n * r → feeding r (s, 0) p ≡ (absorb r n p s, 0)
unfolding feeding absorb
absorbed r zero [] s h e = refl
absorbed r zero (b ∷ bs) s h e = absurd (omega (arith, zero-mul r))
absorbed r (suc n) p s h e =
    let long : r ≤ length p = omega (arith, suc-mul n r) in
    let block : 0 + length (take r p) ≡ r = zero-add (length (take r p)) ∙ length-take-le r p long in
    let rest : length (drop r p) ≡ n * r = length-drop r p ∙ omega (arith, suc-mul n r) in
    ap (feeding r (s, 0)) (sym (take-append-drop r p))
    ∙ feeding-++ r (s, 0) (take r p) (drop r p)
    ∙ ap (λ f. feeding r f (drop r p)) (whole r s 0 (take r p) h block)
    ∙ absorbed r n (drop r p) (keccak (add_bytes s 0 (take r p))) h rest

-- How many bytes of the current block were taken.
pub place : (r : ℕ) (s : List ℕ) (i : ℕ) (bs : List ℕ) → i < r → (feeding r (s, i) bs).1 ≡ (i + length bs) % r
unfolding feeding
place r s i [] l = sym (ap (λ k. k % r) (add-zero i) ∙ mod-eq_of_lt l)
place r s i (b ∷ bs) l =
    let after : i + 1 + length bs ≡ i + suc (length bs) = omega arith in
    let on : i + 1 < r → (feeding r (s, i) (b ∷ bs)).1 ≡ (i + suc (length bs)) % r
    = λ h. ap (λ f. (feeding r f bs).1) (step_on r s i b h) ∙ place r (add_byte s i b) (i + 1) bs h ∙ ap (λ k. k % r) after in
    let full : i + 1 ≡ r → (feeding r (s, i) (b ∷ bs)).1 ≡ (i + suc (length bs)) % r
    = λ h. let far : r + length bs ≡ i + suc (length bs) = omega arith in
    let some : 0 < r = omega arith in
    ap (λ f. (feeding r f bs).1) (step_full r s i b h) ∙ place r (keccak (add_byte s i b)) 0 bs some
    ∙ ap (λ k. k % r) (zero-add (length bs)) ∙ sym (add-mod_left r (length bs)) ∙ ap (λ k. k % r) far in
    let within : i + 1 ≤ r = omega arith in
    ⊎_elim full on (eq-or-lt_of_le within)

-- Adding nothing.
nothing : (s : List ℕ) (i : ℕ) → add_byte s i 0 ≡ s
nothing s i =
    ap (λ v. set s (i / 8) (bit_xor (get_or s (i / 8) 0) v)) (zero-mul (2 ^ (8 * (i % 8))))
    ∙ ap (set s (i / 8)) (xor_zero_r (get_or s (i / 8) 0)) ∙ set-get_or s (i / 8) 0

nothings : (n : ℕ) (s : List ℕ) (i : ℕ) → add_bytes s i (replicate n 0) ≡ s
unfolding add_bytes
nothings zero s i = refl
nothings (suc n) s i = nothings n (add_byte s i 0) (i + 1) ∙ nothing s i

-- The two ends of a padding that lie in one byte.
one_byte : (s : List ℕ) (i suffix : ℕ) → i / 8 < length s → suffix < 128 → add_byte s i (suffix + 128) ≡ add_byte (add_byte s i suffix) i 128
one_byte s i suffix l h =
    let k : ℕ = 8 * (i % 8) in
    let q : ℕ = i / 8 in
    let g : ℕ = get_or s q 0 in
    let low : suffix * 2 ^ k < 2 ^ (7 + k) = shl_below suffix 7 k h in
    let high : 128 * 2 ^ k ≡ 1 * 2 ^ (7 + k) = sym (one-mul (2 ^ (7 + k)) ∙ pow-add 2 7 k) in
    let sum : bit_xor (suffix * 2 ^ k) (128 * 2 ^ k) ≡ (suffix + 128) * 2 ^ k
    = xor_comm (suffix * 2 ^ k) (128 * 2 ^ k) ∙ ap (λ v. bit_xor v (suffix * 2 ^ k)) high ∙ xor_shifted 1 (7 + k) (suffix * 2 ^ k) low
    ∙ ap (λ v. v + suffix * 2 ^ k) (sym high) ∙ add_comm (128 * 2 ^ k) (suffix * 2 ^ k) ∙ sym (add-mul suffix 128 (2 ^ k)) in
    sym (ap (λ v. set (set s q (bit_xor g (suffix * 2 ^ k))) q (bit_xor v (128 * 2 ^ k))) (get_or-set_same s q (bit_xor g (suffix * 2 ^ k)) 0 l)
    ∙ set-set s q (bit_xor g (suffix * 2 ^ k)) (bit_xor (bit_xor g (suffix * 2 ^ k)) (128 * 2 ^ k))
    ∙ ap (set s q) (xor_assoc g (suffix * 2 ^ k) (128 * 2 ^ k) ∙ ap (bit_xor g) sum))

-- The padding of a block that has taken i bytes: its first byte there, and its last bit at the end.
pub closed : (r : ℕ) (s : List ℕ) (i suffix q : ℕ) → i + q ≡ r → 0 < q → suffix < 128 → r ≤ 200 → length s ≡ 25
    → feeding r (s, i) (closing suffix q) ≡ (keccak (add_byte (add_byte s i suffix) (r - 1) 128), 0)
unfolding closing add_bytes
closed r s i suffix zero e some h small long = absurd (omega arith)
closed r s i suffix (suc zero) e some h small long =
    let last : i ≡ r - 1 = omega arith in
    let inside : i / 8 < length s = omega arith in
    let within : i < r = omega arith in
    whole r s i ((suffix + 128) ∷ []) within e
    ∙ ap (λ t. (keccak t, 0)) (one_byte s i suffix inside h ∙ ap (λ k. add_byte (add_byte s i suffix) k 128) last)
closed r s i suffix (suc (suc q)) e some h small long =
    let t : List ℕ = add_byte s i suffix in
    let within : i < r = omega arith in
    let last : i + 1 + q ≡ r - 1 = omega arith in
    let fills : i + suc (length (replicate q 0 ++ (128 ∷ []))) ≡ r
    = ap (λ n. i + suc n) (length-append (replicate q 0) (128 ∷ []) ∙ ap (λ n. n + 1) (length-replicate q 0)) ∙ omega arith in
    whole r s i (suffix ∷ (replicate q 0 ++ (128 ∷ []))) within fills
    ∙ ap (λ u. (keccak u, 0))
    (add_bytes-++ t (i + 1) (replicate q 0) (128 ∷ [])
    ∙ ap (λ u. add_byte u (i + 1 + length {A = ℕ} (replicate q 0)) 128) (nothings q t (i + 1))
    ∙ ap (λ n. add_byte t (i + 1 + n) 128) (length-replicate q 0)
    ∙ ap (λ n. add_byte t n 128) last)

length-closing : (suffix q : ℕ) → length (closing suffix q) ≡ q
unfolding closing
length-closing suffix zero = refl
length-closing suffix (suc zero) = refl
length-closing suffix (suc (suc q)) =
    ap suc (length-append (replicate q 0) (128 ∷ []) ∙ ap (λ n. n + 1) (length-replicate q 0) ∙ add-one q)

-- A state has 25 lanes, whatever it was permuted from.
pub length-keccak : (s : List ℕ) → length (keccak s) ≡ 25
unfolding rounds keccak_round
length-keccak s = refl

length-step : (r : ℕ) (s : List ℕ) (i b : ℕ) → length s ≡ 25 → length (step r (s, i) b).0 ≡ 25
unfolding step
length-step r s i b e =
    let t : List ℕ = add_byte s i b in
    let same : length t ≡ 25 = length-set s (i / 8) _ ∙ e in
    elim (eqb (i + 1) r) as (λ v. length (cond {A = List ℕ × ℕ} v (keccak t, 0) (t, i + 1)).0 ≡ 25)
    [ true ↦ length-keccak t | false ↦ same ]

length-feeding : (r : ℕ) (s : List ℕ) (i : ℕ) (bs : List ℕ) → length s ≡ 25 → length (feeding r (s, i) bs).0 ≡ 25
unfolding feeding
length-feeding r s i [] e = e
length-feeding r s i (b ∷ bs) e = length-feeding r (step r (s, i) b).0 (step r (s, i) b).1 bs (length-step r s i b e)

-- The state after the last block of what a sponge holds.
pub finished : (r suffix : ℕ) (s : List ℕ) (i : ℕ) (fed : List ℕ) → Holds r s i fed → i < r → r ≤ 200 → suffix < 128
    → absorb r (length (padded r suffix fed) / r) (padded r suffix fed) zeros ≡ keccak (add_byte (add_byte s i suffix) (r - 1) 128)
unfolding Holds padded
finished r suffix s i fed holds l small h =
    let long : length s ≡ 25 = ap (λ f. length f.0) holds ∙ length-feeding r zeros 0 fed refl in
    let n : ℕ = length fed / r in
    let q : ℕ = r - length fed % r in
    let p : List ℕ = fed ++ closing suffix q in
    let some : 0 < r = omega arith in
    let at : i ≡ length fed % r = ap (λ f. f.1) holds ∙ place r zeros 0 fed some ∙ ap (λ k. k % r) (zero-add (length fed)) in
    let all : length p ≡ suc n * r
    = length-append fed (closing suffix q) ∙ ap (λ k. length fed + k) (length-closing suffix q)
    ∙ omega (arith, suc-mul n r, div-add-mod' (length fed) r) in
    let count : length p / r ≡ suc n = ap (λ k. k / r) all ∙ mul-div_cancel (suc n) some in
    let fills : i + q ≡ r = omega arith in
    let open-byte : 0 < q = omega arith in
    ap (λ k. absorb r k p zeros) count
    ∙ ap (λ f. f.0)
    (sym (absorbed r (suc n) p zeros some all)
    ∙ feeding-++ r (zeros, 0) fed (closing suffix q)
    ∙ ap (λ f. feeding r f (closing suffix q)) (sym holds)
    ∙ closed r s i suffix q fills open-byte h small long)

-- A turn of the loop that feeds: what stands before the rest.
pub fed_block : (r : ℕ) (s t : List ℕ) (i j : ℕ) (all block rest : List ℕ) → all ≡ block ++ rest → (t, j) ≡ feeding r (s, i) block
    → feeding r (s, i) all ≡ feeding r (t, j) rest
fed_block r s t i j all block rest split e =
    ap (feeding r (s, i)) split ∙ feeding-++ r (s, i) block rest ∙ ap (λ f. feeding r f rest) (sym e)

-- Bytes that fill the block leave the next one empty.
pub filled : (r : ℕ) (s t : List ℕ) (i j : ℕ) (bs : List ℕ) → (t, j) ≡ feeding r (s, i) bs → i < r → i + length bs ≡ r → j ≡ 0
filled r s t i j bs e l h = ap (λ f. f.1) (e ∙ whole r s i bs l h)

-- Nothing is left to feed.
pub fed_none : (r : ℕ) (f : List ℕ × ℕ) (rest : List ℕ) → length rest ≡ 0 → feeding r f rest ≡ f
unfolding feeding
fed_none r f [] h = refl
fed_none r f (b ∷ bs) h = absurd (omega arith)
