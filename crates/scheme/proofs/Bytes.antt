-- `same` is equality of lists, found by joining their differences; `is_in` is kept where a list grows at its front.
-- Assumes nothing.

use Rattle.std.proofs.Common.{◌≡◌, ℕ, Bool, true, false, ◌&&◌, T, eqb, List, [], ◌∷◌, ◌++◌, length, sym, refl, fold, ap, ◌∙◌, subst, ⊎_elim, arith, eqb→eq}
use Rattle.std.specs.List.{zip}
use mathlib.Core.Bool.{or-true, and-true}
use lib.Dec.{eqb_refl}
use lib.Bits.{bit_or, bit_xor, or_zero_l, xor_zero_l, xor_zero_r, xor_self, xor_assoc, or_add_and, xor_add_and}
use Rattle.std.proofs.lemmas.Bool.{cases_Bool, both_ways, and_from, eqb-true, eq-eqb, ne_eqb}
use Rattle.scheme.specs.Bytes.{same, differences, is_in}

pub holds : (b : Bool) → b ≡ true → T b
holds b e = subst T (sym e) tt

pub is_true : (b : Bool) → T b → b ≡ true
is_true true t = refl
is_true false t = absurd t

pub both : (a b : Bool) → (a && b) ≡ true → (a ≡ true) × (b ≡ true)
both true b e = (refl, e)
both false b e = absurd (holds false e)

pub same_equal : (xs ys : List ℕ) → same xs ys ≡ true → xs ≡ ys
unfolding same
same_equal [] [] e = refl
same_equal [] (y ∷ ys) e = absurd (holds false e)
same_equal (x ∷ xs) [] e = absurd (holds false e)
same_equal (x ∷ xs) (y ∷ ys) e =
    let parts = both (eqb x y) (same xs ys) e in
    let head : x ≡ y = eqb→eq x y (holds (eqb x y) parts.0) in
    let tail : xs ≡ ys = same_equal xs ys parts.1 in
    cc

pub same_refl : (xs : List ℕ) → same xs xs ≡ true
unfolding same
same_refl [] = refl
same_refl (x ∷ xs) = rw (is_true (eqb x x) (eqb_refl x)) (same_refl xs)

pub is_in_later : (x : List ℕ) (more xs : List (List ℕ)) → is_in x xs ≡ true → is_in x (more ++ xs) ≡ true
unfolding is_in
is_in_later x [] xs e = e
is_in_later x (y ∷ more) xs e = rw (is_in_later x more xs e) (or-true (same x y))

-- Lists of two lengths are not the same.
pub same_lengths : (xs ys : List ℕ) → (length xs ≡ length ys → ⊥) → same xs ys ≡ false
same_lengths xs ys differ =
    ⊎_elim (λ e. absurd (differ (ap length (same_equal xs ys e)))) (λ e. e) (cases_Bool (same xs ys))

xor_apart : (x y : ℕ) → bit_xor x y ≡ 0 → x ≡ y
xor_apart x y e =
    sym (sym (xor_zero_l y) ∙ ap (λ z. bit_xor z y) (sym (xor_self x)) ∙ xor_assoc x x y ∙ ap (bit_xor x) e ∙ xor_zero_r x)

or_none : (a b : ℕ) → bit_or a b ≡ 0 → (a ≡ 0) × (b ≡ 0)
or_none a b e =
    let all = or_add_and a b in
    let twice = xor_add_and a b in
    (omega arith, omega arith)

-- A difference is kept: none is left just where there was none, and the two bytes are equal.
pub difference_kept : (d x y : ℕ) → eqb (bit_or d (bit_xor x y)) 0 ≡ (eqb d 0 && eqb x y)
difference_kept d x y = ⊎_elim equal unlike (cases_Bool (eqb d 0 && eqb x y))
  where
    equal : (eqb d 0 && eqb x y) ≡ true → eqb (bit_or d (bit_xor x y)) 0 ≡ (eqb d 0 && eqb x y)
    equal e =
        let parts = both (eqb d 0) (eqb x y) e in
        let none : d ≡ 0 = eqb-true d 0 parts.0 in
        let alike : x ≡ y = eqb-true x y parts.1 in
        eq-eqb (bit_or d (bit_xor x y)) 0
        (ap (λ z. bit_or z (bit_xor x y)) none ∙ or_zero_l (bit_xor x y) ∙ ap (λ z. bit_xor z y) alike ∙ xor_self y)
        ∙ sym e

    unlike : (eqb d 0 && eqb x y) ≡ false → eqb (bit_or d (bit_xor x y)) 0 ≡ (eqb d 0 && eqb x y)
    unlike e =
        ne_eqb (bit_or d (bit_xor x y)) 0
        (λ z. let parts = or_none d (bit_xor x y) z in
        both_ways (eqb d 0 && eqb x y) e (and_from (eqb d 0) (eqb x y) (eq-eqb d 0 parts.0) (eq-eqb x y (xor_apart x y parts.1))))
        ∙ sym e

and_assoc : (a b c : Bool) → ((a && b) && c) ≡ (a && (b && c))
and_assoc true b c = refl
and_assoc false b c = refl

-- Lists of one length differ nowhere just where they are the same: d has the differences before them.
no_difference : (d : ℕ) (xs ys : List ℕ) → length xs ≡ length ys
    → eqb (fold (λ found p. bit_or found (bit_xor p.0 p.1)) d (zip xs ys)) 0 ≡ (eqb d 0 && same xs ys)
unfolding same
no_difference d [] [] e = sym (and-true (eqb d 0))
no_difference d [] (y ∷ ys) e = absurd (omega arith)
no_difference d (x ∷ xs) [] e = absurd (omega arith)
no_difference d (x ∷ xs) (y ∷ ys) e =
    no_difference (bit_or d (bit_xor x y)) xs ys (omega arith)
    ∙ ap (λ b. b && same xs ys) (difference_kept d x y)
    ∙ and_assoc (eqb d 0) (eqb x y) (same xs ys)

pub same_if_no_differences : (xs ys : List ℕ) → length xs ≡ length ys → eqb (differences xs ys) 0 ≡ same xs ys
same_if_no_differences xs ys e = no_difference 0 xs ys e

-- the same, turned, so that `grind` finds it where it meets `same`
pub same_by_differences : (xs ys : List ℕ) → length xs ≡ length ys → same xs ys ≡ eqb (differences xs ys) 0
same_by_differences xs ys e = sym (same_if_no_differences xs ys e)
