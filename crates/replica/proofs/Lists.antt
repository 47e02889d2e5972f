-- The definitions of lists of names, in the words of std's `any`, `all` and `contains`. Assumes nothing.
use Rattle.std.proofs.Common.{◌≡◌, ℕ, zero, suc, ◌+◌, Bool, not, ◌&&◌, eqb, ltb, nat_eq, List, [], ◌∷◌, length, get_or, drop, refl, ◌∙◌, arith}
use Rattle.std.specs.List.{list_any, list_all, range_with_len}
use Rattle.std.proofs.lemmas.List.{at_drop_more, at_drop_all}
use Rattle.std.proofs.lemmas.Bool.Decides.{nat_tests}
use Rattle.model.specs.Names.{is_in, all_in, distinct}
use Rattle.model.specs.Blocks.{Book, all_earlier}
use Rattle.model.specs.Member.{rival}

-- what a slice's `contains` answers
abbrev pub has : List ℕ → ℕ → Bool
has xs x = list_any (λ y. nat_eq y x) xs

pub is_in_has : (x : ℕ) (xs : List ℕ) → is_in x xs ≡ has xs x
unfolding is_in
is_in_has x [] = refl
is_in_has x (y ∷ ys) = grind (arith, nat_tests, is_in_has x ys)

pub all_in_has : (xs ys : List ℕ) → all_in xs ys ≡ list_all (has ys) xs
unfolding all_in
all_in_has [] ys = refl
all_in_has (x ∷ xs) ys = rw (is_in_has x ys, all_in_has xs ys)

pub rival_any :
    (b : Book) (x : ℕ) (xs : List ℕ) →
    rival b x xs ≡ list_any (λ y. not (eqb x y) && eqb (b x).author (b y).author && eqb (b x).round (b y).round) xs
unfolding rival
rival_any b x [] = refl
rival_any b x (y ∷ ys) = rw (rival_any b x ys)

pub earlier_all : (b : Book) (r : ℕ) (xs : List ℕ) → all_earlier b r xs ≡ list_all (λ x. ltb (b x).round r) xs
unfolding all_earlier
earlier_all b r [] = refl
earlier_all b r (x ∷ xs) = rw (earlier_all b r xs)

-- the same by places: what stands from place a on, at the n places that are left
pub is_in_places :
    (x : ℕ) (xs : List ℕ) (a n : ℕ) → a + n ≡ length xs → is_in x (drop a xs) ≡ list_any (λ i. eqb (get_or xs i 0) x) (range_with_len a n)
unfolding is_in
is_in_places x xs a zero e = at_drop_all (is_in x) xs a (omega arith)
is_in_places x xs a (suc n) e =
    let rest = is_in_places x xs (a + 1) n (omega arith) in
    let here = at_drop_more (is_in x) xs a 0 (omega arith) in
    grind (arith, nat_tests, here, rest)

pub distinct_places :
    (xs : List ℕ) (a n : ℕ) → a + n ≡ length xs →
    distinct (drop a xs) ≡ list_all (λ i. not (is_in (get_or xs i 0) (drop (i + 1) xs))) (range_with_len a n)
unfolding distinct
distinct_places xs a zero e = at_drop_all distinct xs a (omega arith)
distinct_places xs a (suc n) e = at_drop_more distinct xs a 0 (omega arith) ∙ rw (distinct_places xs (a + 1) n (omega arith))
