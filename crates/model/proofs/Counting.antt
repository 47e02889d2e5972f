-- Sums of weights over the members 0 to n - 1, and that the different names of a list are a sum of weights 1. Assumes nothing.
use mathlib.Core.Path.{◌≡◌, refl, sym, subst}
use mathlib.Core.Bool.{Bool, true, false, cond, ◌&&◌, not}
use mathlib.Core.List.{List, [], ◌∷◌}
use Prim.Native.Nat.{ℕ, zero, suc, ◌+◌, ◌≤◌, ◌<◌}
use native.Mathlib.Omega.{arith}
use lib.Dec.{T, T_not}
use Rattle.model.specs.Names.{is_in, different, without}
use Rattle.model.specs.Thresholds.{bad_count}
use Rattle.model.proofs.Tools.{cond_cases}
use Rattle.model.proofs.Lists.{In, in_here, in_single, without_in, in_without, different-none, different_less}

-- the weights of those below n that have P, summed up
pub weigh : ℕ → (ℕ → ℕ) → (ℕ → Bool) → ℕ
weigh zero w P = 0
weigh (suc n) w P = cond (P n) (w n) 0 + weigh n w P

-- how many below n have P: each weighs 1
abbrev pub count : ℕ → (ℕ → Bool) → ℕ
count n P = weigh n (λ _. 1) P

-- what has P, and what has Q, share all that is too much for the whole
pub weigh_overlap :
    (n : ℕ) (w : ℕ → ℕ) (P Q : ℕ → Bool) → weigh n w P + weigh n w Q ≤ weigh n w (λ _. true) + weigh n w (λ i. P i && Q i)
unfolding weigh
weigh_overlap zero w P Q = omega arith
weigh_overlap (suc n) w P Q = step (P n) (Q n) (weigh_overlap n w P Q)
  where
    step :
        (c d : Bool) → weigh n w P + weigh n w Q ≤ weigh n w (λ _. true) + weigh n w (λ i. P i && Q i) →
        (cond c (w n) 0 + weigh n w P) + (cond d (w n) 0 + weigh n w Q) ≤
        (w n + weigh n w (λ _. true)) + (cond (c && d) (w n) 0 + weigh n w (λ i. P i && Q i))
    step true true ih = omega arith
    step true false ih = omega arith
    step false true ih = omega arith
    step false false ih = omega arith

-- what has P and what hasn't are the whole
pub weigh_apart : (n : ℕ) (w : ℕ → ℕ) (P : ℕ → Bool) → weigh n w P + weigh n w (λ i. not (P i)) ≡ weigh n w (λ _. true)
unfolding weigh
weigh_apart zero w P = refl
weigh_apart (suc n) w P = step (P n) (weigh_apart n w P)
  where
    step :
        (c : Bool) → weigh n w P + weigh n w (λ i. not (P i)) ≡ weigh n w (λ _. true) →
        (cond c (w n) 0 + weigh n w P) + (cond (not c) (w n) 0 + weigh n w (λ i. not (P i))) ≡ w n + weigh n w (λ _. true)
    step true ih = omega arith
    step false ih = omega arith

-- if all that has P has Q, P weighs no more
pub weigh_within : (n : ℕ) (w : ℕ → ℕ) (P Q : ℕ → Bool) → ((i : ℕ) → i < n → T (P i) → T (Q i)) → weigh n w P ≤ weigh n w Q
unfolding weigh
weigh_within zero w P Q h = omega arith
weigh_within (suc n) w P Q h = step (P n) (Q n) (h n (omega arith)) (weigh_within n w P Q (λ i l. h i (omega arith)))
  where
    step : (c d : Bool) → (T c → T d) → weigh n w P ≤ weigh n w Q → cond c (w n) 0 + weigh n w P ≤ cond d (w n) 0 + weigh n w Q
    step true true k ih = omega arith
    step true false k ih = absurd (k tt)
    step false true k ih = omega arith
    step false false k ih = omega arith

-- what weighs something has a member, found by looking at each
pub weigh_some : (n : ℕ) (w : ℕ → ℕ) (P : ℕ → Bool) → 0 < weigh n w P → (i : ℕ) × (i < n) × T (P i)
unfolding weigh
weigh_some zero w P h = absurd (omega arith)
weigh_some (suc n) w P h = step (P n) refl h (weigh_some n w P)
  where
    step :
        (c : Bool) → P n ≡ c → 0 < cond c (w n) 0 + weigh n w P → (0 < weigh n w P → (i : ℕ) × (i < n) × T (P i)) →
        (i : ℕ) × (i < suc n) × T (P i)
    step true e k ih = (n, omega arith, subst T (sym e) tt)
    step false e k ih = let r = ih (omega arith) in let l = r.1 in (r.0, omega arith, r.2)

-- all n count n
pub count_all : (n : ℕ) → count n (λ _. true) ≡ n
unfolding weigh
count_all zero = refl
count_all (suc n) = let ih = count_all n in omega arith

pub count_bad : (n : ℕ) (bad : ℕ → Bool) → bad_count n bad ≡ count n bad
unfolding weigh bad_count
count_bad zero bad = refl
count_bad (suc n) bad = step (bad n) (count_bad n bad)
  where
    step : (c : Bool) → bad_count n bad ≡ count n bad → cond c (suc (bad_count n bad)) (bad_count n bad) ≡ cond c 1 0 + count n bad
    step true ih = omega arith
    step false ih = omega arith

-- ---- the different names of a list, counted
-- below n nothing changes where n is taken out
pub count_without : (n : ℕ) (xs : List ℕ) → count n (λ i. is_in i xs) ≤ count n (λ i. is_in i (without (n ∷ []) xs))
count_without n xs =
    weigh_within n (λ _. 1) (λ i. is_in i xs) (λ i. is_in i (without (n ∷ []) xs))
    (λ i l t. without_in i (n ∷ []) xs t (λ s. let e = in_single i n s in absurd (omega arith)))

-- those below n are no more than all
pub count≤different : (n : ℕ) (xs : List ℕ) → count n (λ i. is_in i xs) ≤ different xs
unfolding weigh
count≤different zero xs = omega arith
count≤different (suc n) xs =
    let left = without (n ∷ []) xs in
    cond_cases (λ c. c + count n (λ i. is_in i xs) ≤ different xs) (is_in n xs) 1 0
    (λ t. let less = different_less n xs t in let same = count_without n xs in let ih = count≤different n left in omega arith)
    (λ _. let ih = count≤different n xs in omega arith)

-- where all are below n they are no less
pub different≤count : (n : ℕ) (xs : List ℕ) → ((x : ℕ) → In x xs → x < n) → different xs ≤ count n (λ i. is_in i xs)
unfolding weigh
different≤count zero [] h = let e = different-none in omega arith
different≤count zero (x ∷ xs) h = let l = h x (in_here x xs) in absurd (omega arith)
different≤count (suc n) xs h =
    let left = without (n ∷ []) xs in
    cond_cases (λ c. different xs ≤ c + count n (λ i. is_in i xs)) (is_in n xs) 1 0
    (λ t.
    let less = different_less n xs t in
    let ih =
    different≤count n left
    (λ x s.
    let r = in_without x (n ∷ []) xs s in
    let l = h x r.0 in
    let apart : x ≡ n → ⊥ = λ e. r.1 (subst (λ z. In x (z ∷ [])) e (in_here x [])) in
    grind arith) in
    let same = weigh_within n (λ _. 1) (λ i. is_in i left) (λ i. is_in i xs) (λ i _ s. (in_without i (n ∷ []) xs s).0) in
    omega arith)
    (λ m.
    let ih =
    different≤count n xs
    (λ x s.
    let l = h x s in
    let apart : x ≡ n → ⊥ = λ e. T_not (is_in n xs) m (subst (λ z. In z xs) e s) in
    grind arith) in
    omega arith)
