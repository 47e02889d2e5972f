-- Numbers, digit by digit. Assumes nothing.
use Rattle.std.proofs.Common.{◌≡◌, ℕ, ◌+◌, ◌-◌, ◌*◌, ◌^◌, ◌<◌, ◌≤◌, ◌&&◌, T, List, [], ◌∷◌, length, get_or, drop, sym, refl, ap, ◌∙◌, subst, le_refl, arith}
use Rattle.std.specs.Char.{is_ascii_digit}
use Rattle.std.proofs.lemmas.List.{drop_more, drop_all}
use Rattle.lines.proofs.Both.{and_left, is_true}
use Rattle.lines.specs.Numbers.{all_digits, value_after, Writes}

-- a number never falls as digits are added
pub value_grows : (n : ℕ) (bs : List ℕ) → n ≤ value_after n bs
unfolding value_after
value_grows n [] = le_refl n
value_grows n (b ∷ bs) = let h = value_grows (n * 10 + (b - 48)) bs in omega arith

pub digits_next : (bs : List ℕ) (i : ℕ) → i < length bs → all_digits (drop i bs) ≡ (is_ascii_digit (get_or bs i 0) && all_digits (drop (i + 1) bs))
unfolding all_digits
digits_next bs i h = ap all_digits (drop_more bs i 0 h)

pub value_next : (n : ℕ) (bs : List ℕ) (i : ℕ) → i < length bs → value_after n (drop i bs) ≡ value_after (n * 10 + (get_or bs i 0 - 48)) (drop (i + 1) bs)
unfolding value_after
value_next n bs i h = ap (value_after n) (drop_more bs i 0 h)

-- what the bytes from place i on still have to tell, when those before them are digits and write the number
pub record Read (bs : List ℕ) (i n : ℕ) : Type 0 where
  pub all : all_digits bs ≡ all_digits (drop i bs)
  pub value : value_after 0 bs ≡ value_after n (drop i bs)

pub read_none : (bs : List ℕ) → Read bs 0 0
read_none bs = record { all = refl; value = refl }

pub read_more : (bs : List ℕ) (i n m : ℕ) → i < length bs → Read bs i n → T (is_ascii_digit (get_or bs i 0)) → m ≡ n * 10 + (get_or bs i 0 - 48) → Read bs (i + 1) m
read_more bs i n m h r d e = record {
  all = r.all ∙ digits_next bs i h ∙ ap (λ t. t && all_digits (drop (i + 1) bs)) (is_true (is_ascii_digit (get_or bs i 0)) d);
  value = r.value ∙ value_next n bs i h ∙ ap (λ x. value_after x (drop (i + 1) bs)) (sym e);
}

pub read_refused : (bs : List ℕ) (i n : ℕ) → i < length bs → Read bs i n →
    (T (is_ascii_digit (get_or bs i 0)) → 2 ^ 32 ≤ n * 10 + (get_or bs i 0 - 48)) → (m : ℕ) → Writes bs m → 2 ^ 32 ≤ m
read_refused bs i n h r none m w =
    let b = get_or bs i 0 in
    let digit : T (is_ascii_digit b) = and_left (is_ascii_digit b) (all_digits (drop (i + 1) bs)) (subst T (r.all ∙ digits_next bs i h) w.all) in
    let large = none digit in
    let grows = value_grows (n * 10 + (b - 48)) (drop (i + 1) bs) in
    let same = value_next n bs i h in
    let whole = r.value in
    let is = w.value in
    omega arith

pub read_all : (bs : List ℕ) (i n : ℕ) → length bs ≤ i → 0 < length bs → Read bs i n → Writes bs n
unfolding all_digits value_after
read_all bs i n h some r = record {
  some = some;
  all = subst T (sym (r.all ∙ ap all_digits (drop_all i bs h))) tt;
  value = r.value ∙ ap (value_after n) (drop_all i bs h);
}
