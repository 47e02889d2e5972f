-- Tests on lists of bytes: whether two are equal, and whether one stands in a list of them.
-- Assumes nothing: these are definitions.

use Rattle.std.specs.Prelude.{ℕ, Bool, true, false, ◌&&◌, ◌||◌, List, [], ◌∷◌, ◌==◌, bit_or, bit_xor, fold}
use Rattle.std.specs.List.{zip}

unfoldable pub same : List ℕ → List ℕ → Bool
same [] [] = true
same [] (y ∷ ys) = false
same (x ∷ xs) [] = false
same (x ∷ xs) (y ∷ ys) = x == y && same xs ys

-- The bits in which two lists differ anywhere, as far as both go.
abbrev pub differences : List ℕ → List ℕ → ℕ
differences xs ys = fold (λ found p. bit_or found (bit_xor p.0 p.1)) 0 (zip xs ys)

unfoldable pub is_in : List ℕ → List (List ℕ) → Bool
is_in x [] = false
is_in x (y ∷ ys) = same x y || is_in x ys
