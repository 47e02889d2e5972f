-- The bits of a number: each by the number's half, what setting one does to the bits and to their count, and that they pin the number.
-- Assumes nothing.
use Rattle.std.proofs.Common.{◌≡◌, ℕ, zero, suc, ◌+◌, ◌*◌, ◌/◌, ◌%◌, ◌^◌, ◌<◌, max, Bool, true, false, cond, ◌||◌, eqb, sym, refl, ap, ◌∙◌, subst, ap₂, pow-suc, add-one, arith, lit<, shr_lt}
use lib.Bits.{bit_or, or_step, or_zero_r}
use lib.Count.{ones, ones_step}
use lib.Dec.{eqb-zero-suc, eqb-suc-zero, eqb-suc-suc}
use Rattle.std.proofs.lemmas.Nat.Bits.{bit_at_lowest, bit_at-suc, bit_at-zero, bit_at-lt, same_from_bits}
use Rattle.members.specs.Sets.{has_bit}

-- the half and the last bit of a number that is made of them
half_of : (q r : ℕ) → r < 2 → (q * 2 + r) / 2 ≡ q
half_of q r h = omega arith

last_of : (q r : ℕ) → r < 2 → (q * 2 + r) % 2 ≡ r
last_of q r h = omega arith

pub below_two : (b : ℕ) → b % 2 < 2
below_two b = omega arith

-- a number's first bit is its last digit, and its other bits are its half's
pub first_bit : (b : ℕ) → has_bit zero b ≡ eqb (b % 2) 1
unfolding has_bit
first_bit b = ap (λ x. eqb x 1) (bit_at_lowest b)

pub later_bit : (i b : ℕ) → has_bit (suc i) b ≡ has_bit i (b / 2)
unfolding has_bit
later_bit i b = ap (λ x. eqb x 1) (bit_at-suc b i)

first_of : (q r : ℕ) → r < 2 → has_bit zero (q * 2 + r) ≡ eqb r 1
first_of q r h = first_bit (q * 2 + r) ∙ ap (λ x. eqb x 1) (last_of q r h)

later_of : (i q r : ℕ) → r < 2 → has_bit (suc i) (q * 2 + r) ≡ has_bit i q
later_of i q r h = later_bit i (q * 2 + r) ∙ ap (has_bit i) (half_of q r h)

ones_of : (q r : ℕ) → r < 2 → ones (q * 2 + r) ≡ r + ones q
ones_of q r h = ones_step (q * 2 + r) ∙ ap₂ (λ x y. x + ones y) (last_of q r h) (half_of q r h)

-- setting the first bit, and setting a later one
set_first : (b : ℕ) → bit_or b (2 ^ zero) ≡ b / 2 * 2 + 1
set_first b = or_step b 1 ∙ ap₂ (λ x y. x * 2 + y) (or_zero_r (b / 2)) (let h = below_two b in omega arith)

set_later : (m b : ℕ) → bit_or b (2 ^ suc m) ≡ bit_or (b / 2) (2 ^ m) * 2 + b % 2
set_later m b =
    or_step b (2 ^ suc m)
    ∙ ap₂ (λ x y. bit_or (b / 2) x * 2 + y)
    (ap (λ x. x / 2) (pow-suc 2 m) ∙ (omega arith))
    (ap (λ x. max (b % 2) (x % 2)) (pow-suc 2 m) ∙ (omega arith))

-- setting bit m sets it and leaves the others
pub set_bit : (m b i : ℕ) → has_bit i (bit_or b (2 ^ m)) ≡ (eqb i m || has_bit i b)
set_bit zero b zero = ap (has_bit zero) (set_first b) ∙ first_of (b / 2) 1 (lit< tt)
set_bit zero b (suc i) =
    ap (has_bit (suc i)) (set_first b) ∙ later_of i (b / 2) 1 (lit< tt) ∙ sym (later_bit i b)
    ∙ sym (ap (λ t. t || has_bit (suc i) b) (eqb-suc-zero i))
set_bit (suc m) b zero =
    ap (has_bit zero) (set_later m b) ∙ first_of (bit_or (b / 2) (2 ^ m)) (b % 2) (below_two b) ∙ sym (first_bit b)
    ∙ sym (ap (λ t. t || has_bit zero b) (eqb-zero-suc m))
set_bit (suc m) b (suc i) =
    ap (has_bit (suc i)) (set_later m b) ∙ later_of i (bit_or (b / 2) (2 ^ m)) (b % 2) (below_two b) ∙ set_bit m (b / 2) i
    ∙ sym (ap₂ ◌||◌ (eqb-suc-suc i m) (later_bit i b))

-- setting bit m makes one more set bit, unless it was set
one_more : (t : Bool) (n r : ℕ) → r + cond t n (suc n) ≡ cond t (r + n) (suc (r + n))
one_more true n r = refl
one_more false n r = omega arith

odd_or_even : (r n : ℕ) → r < 2 → 1 + n ≡ cond (eqb r 1) (r + n) (suc (r + n))
odd_or_even zero n h = omega arith
odd_or_even (suc zero) n h = refl
odd_or_even (suc (suc r)) n h = absurd (omega arith)

pub set_ones : (m b : ℕ) → ones (bit_or b (2 ^ m)) ≡ cond (has_bit m b) (ones b) (suc (ones b))
set_ones zero b =
    ap ones (set_first b) ∙ ones_of (b / 2) 1 (lit< tt) ∙ odd_or_even (b % 2) (ones (b / 2)) (below_two b)
    ∙ sym (ap₂ (λ t n. cond t n (suc n)) (first_bit b) (ones_step b))
set_ones (suc m) b =
    ap ones (set_later m b) ∙ ones_of (bit_or (b / 2) (2 ^ m)) (b % 2) (below_two b) ∙ ap (λ x. b % 2 + x) (set_ones m (b / 2))
    ∙ one_more (has_bit m (b / 2)) (ones (b / 2)) (b % 2)
    ∙ sym (ap₂ (λ t n. cond t n (suc n)) (later_bit m b) (ones_step b))

-- nought has no bit set
pub no_bit : (i : ℕ) → has_bit i 0 ≡ false
unfolding has_bit
no_bit i = ap (λ x. eqb x 1) (bit_at-zero i)

same_digit : (r s : ℕ) → r < 2 → s < 2 → eqb r 1 ≡ eqb s 1 → r ≡ s
same_digit zero zero h k e = refl
same_digit zero (suc zero) h k e = let z : ◌≡◌ {A = ℕ} 0 1 = cc in omega arith
same_digit (suc zero) zero h k e = let z : ◌≡◌ {A = ℕ} 0 1 = cc in omega arith
same_digit (suc zero) (suc zero) h k e = refl
same_digit zero (suc (suc s)) h k e = absurd (omega arith)
same_digit (suc zero) (suc (suc s)) h k e = absurd (omega arith)
same_digit (suc (suc r)) s h k e = absurd (omega arith)

pub half_lt : (k a : ℕ) → a < 2 ^ suc k → a / 2 < 2 ^ k
half_lt k a h = shr_lt k 1 (subst (λ (x : ℕ). a < 2 ^ x) (sym (add-one k)) h)

-- numbers with the same bits are the same
pub bits_pin : (a b : ℕ) → ((i : ℕ) → has_bit i a ≡ has_bit i b) → a ≡ b
unfolding has_bit
bits_pin a b same = same_from_bits a b (λ i. same_digit _ _ (bit_at-lt a i) (bit_at-lt b i) (same i))
