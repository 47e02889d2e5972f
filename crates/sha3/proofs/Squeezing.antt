-- The string of a state byte by byte, and the bytes that a sponge gives, block by block.
-- Nothing is assumed of the state's lanes.

use Rattle.std.proofs.Common.{◌≡◌, ℕ, zero, suc, ◌+◌, ◌-◌, ◌*◌, ◌/◌, ◌%◌, ◌^◌, ◌<◌, ◌≤◌, List, [], ◌∷◌, ◌++◌, length, get_or, get_or-take, take, drop, set, sym, refl, ap, ◌∙◌, append_assoc, mod-lt, suc-mul, add-mul, one-mul, div-add-mod', zero-mul, div-one, add-one, arith, length-take, length-take-le, drop-cons, drop_of_length-le, length-set}
use native.Mathlib.Nat.{zero-div, zero-mod}
use Rattle.std.proofs.lemmas.List.{take_more_set}
use Rattle.sha3.specs.Keccak.{keccak}
use Rattle.sha3.specs.Sponge.{bytes_of, blocks, squeezed}

-- Byte j of lane q.
byte_of_lane : (s : List ℕ) (q j : ℕ) → j < 8 → get_or (bytes_of s) (8 * q + j) 0 ≡ get_or s q 0 / 2 ^ (8 * j) % 256
unfolding bytes_of
byte_of_lane [] q j h = sym (ap (λ v. v % 256) (zero-div (2 ^ (8 * j))) ∙ zero-mod 256)
byte_of_lane (v ∷ vs) zero zero h = ap (λ n. n % 256) (sym (div-one v))
byte_of_lane (v ∷ vs) zero (suc zero) h = refl
byte_of_lane (v ∷ vs) zero (suc (suc zero)) h = refl
byte_of_lane (v ∷ vs) zero (suc (suc (suc zero))) h = refl
byte_of_lane (v ∷ vs) zero (suc (suc (suc (suc zero)))) h = refl
byte_of_lane (v ∷ vs) zero (suc (suc (suc (suc (suc zero))))) h = refl
byte_of_lane (v ∷ vs) zero (suc (suc (suc (suc (suc (suc zero)))))) h = refl
byte_of_lane (v ∷ vs) zero (suc (suc (suc (suc (suc (suc (suc zero))))))) h = refl
byte_of_lane (v ∷ vs) zero (suc (suc (suc (suc (suc (suc (suc (suc j)))))))) h = absurd (omega arith)
byte_of_lane (v ∷ vs) (suc q) j h =
    let past : 8 * suc q + j ≡ suc (suc (suc (suc (suc (suc (suc (suc (8 * q + j)))))))) = omega arith in
    ap (λ i. get_or (bytes_of (v ∷ vs)) i 0) past ∙ byte_of_lane vs q j h

pub byte_at : (s : List ℕ) (i : ℕ) → get_or (bytes_of s) i 0 ≡ get_or s (i / 8) 0 / 2 ^ (8 * (i % 8)) % 256
byte_at s i =
    let parts : i ≡ 8 * (i / 8) + i % 8 = omega arith in
    let low : i % 8 < 8 = omega arith in
    ap (λ k. get_or (bytes_of s) k 0) parts ∙ byte_of_lane s (i / 8) (i % 8) low

pub length-bytes_of : (s : List ℕ) → length (bytes_of s) ≡ 8 * length s
unfolding bytes_of
length-bytes_of [] = refl
length-bytes_of (v ∷ vs) = let ih : length (bytes_of vs) ≡ 8 * length vs = length-bytes_of vs in omega arith

-- What a loop that gives bytes keeps: those that it gave, and enough blocks for those that are left.
abbrev pub Left : ℕ → List ℕ → ℕ → ℕ → List ℕ → List ℕ → Type 0
Left r all i at out s =
    (k : ℕ) × (all ≡ take i out ++ take (length out - i) (drop at (take r (bytes_of s)) ++ blocks r k (keccak s)))
    × (length out - i ≤ (r - at) + k * r)

all_given : (r : ℕ) (b : List ℕ) → drop r (take r b) ≡ []
all_given r b = drop_of_length-le (take r b) (omega (arith, length-take r b))

-- Nothing is given yet, and the state is not permuted.
pub left_all : (r : ℕ) (out s : List ℕ) → 0 < r → Left r (squeezed r (length out) (keccak s)) 0 r out s
unfolding squeezed
left_all r out s some =
    let n : ℕ = length out in
    let k : ℕ = n / r + 1 in
    let whole : n - 0 ≡ n = omega arith in
    let enough : n - 0 ≤ (r - r) + k * r = omega (arith, add-mul (n / r) 1 r, one-mul r, div-add-mod' n r, mod-lt n some) in (
      k,
      sym (ap (λ t. take (n - 0) (t ++ blocks r k (keccak s))) (all_given r (bytes_of s)) ∙ ap (λ m. take m (blocks r k (keccak s))) whole),
      enough,
    )

-- All bytes of a block are given, and more are wanted: the next block.
pub left_block : (r i : ℕ) (all out s : List ℕ) → i < length out → Left r all i r out s → Left r all i 0 out (keccak s)
unfolding blocks
left_block r i all out s h (zero, e, enough) = absurd (omega (arith, zero-mul r))
left_block r i all out s h (suc k, e, enough) =
    let fewer : length out - i ≤ (r - 0) + k * r = omega (arith, suc-mul k r) in (
      k,
      e ∙ ap (λ t. take i out ++ take (length out - i) (t ++ blocks r (suc k) (keccak s))) (all_given r (bytes_of s)),
      fewer,
    )

-- One byte more.
pub left_byte : (r i at v : ℕ) (all out s : List ℕ) → i < length out → at < r → r ≤ length (bytes_of s) → v ≡ get_or (bytes_of s) at 0
    → Left r all i at out s → Left r all (i + 1) (at + 1) (set out i v) s
left_byte r i at v all out s h inside long is (k, e, enough) =
    let n : ℕ = length out in
    let b : List ℕ = take r (bytes_of s) in
    let more : List ℕ = blocks r k (keccak s) in
    let rest : List ℕ = drop (at + 1) b ++ more in
    let size : length b ≡ r = length-take-le r (bytes_of s) long in
    let same : length (set out i v) ≡ n = length-set out i v in
    let cut : drop at b ≡ v ∷ drop (at + 1) b
    = drop-cons b at 0 (omega arith)
    ∙ ap (λ x. x ∷ drop (suc at) b) (get_or-take r (bytes_of s) at 0 inside ∙ sym is)
    ∙ ap (λ m. v ∷ drop m b) (sym (add-one at)) in
    let count : n - i ≡ suc (n - (i + 1)) = omega arith in
    let fewer : length (set out i v) - (i + 1) ≤ (r - (at + 1)) + k * r = omega arith in (
      k,
      e
          ∙ ap (λ t. take i out ++ take (n - i) (t ++ more)) cut
          ∙ ap (λ m. take i out ++ take m (v ∷ rest)) count
          ∙ sym (append_assoc (take i out) (v ∷ []) (take (n - (i + 1)) rest))
          ∙ ap (λ t. t ++ take (n - (i + 1)) rest) (sym (take_more_set out i v h))
          ∙ ap (λ m. take (i + 1) (set out i v) ++ take (m - (i + 1)) rest) (sym same),
      fewer,
    )
