-- Numbers that are all below a limit. Assumes nothing.
use Rattle.std.proofs.Common.{◌≡◌, ℕ, suc, ◌<◌, Bool, true, ◌&&◌, ltb, List, [], ◌∷◌, get_or, refl, ap, ◌∙◌}
use Rattle.std.proofs.lemmas.Bool.{lt-ltb}
use Rattle.std.specs.List.{list_all}
use Rattle.model.specs.Names.{all_below}

first_below : (limit x : ℕ) (xs : List ℕ) → x < limit → all_below limit (x ∷ xs) ≡ all_below limit xs
unfolding all_below
first_below limit x xs h = ap (λ (b : Bool). b && all_below limit xs) (lt-ltb x limit h)

none_not_below : (limit : ℕ) → all_below limit [] ≡ true
unfolding all_below
none_not_below limit = refl

pub each_below : (limit : ℕ) → 0 < limit → (xs : List ℕ) → ((i : ℕ) → get_or xs i 0 < limit) → all_below limit xs ≡ true
each_below limit pos [] h = none_not_below limit
each_below limit pos (x ∷ xs) h = first_below limit x xs (h 0) ∙ each_below limit pos xs (λ i. h (suc i))

pub all_below_is : (limit : ℕ) (xs : List ℕ) → list_all (λ x. ltb x limit) xs ≡ all_below limit xs
unfolding all_below
all_below_is limit [] = refl
all_below_is limit (x ∷ xs) = ap (λ (b : Bool). ltb x limit && b) (all_below_is limit xs)
