-- A stretch of a slice: how long it is, and what stands in it. Assumes nothing.
use mathlib.Core.Path.{◌≡◌, refl, ap, ◌∙◌}
use mathlib.Core.List.{List, [], ◌∷◌}
use Prim.Native.Nat.{ℕ, zero, suc, ◌+◌, ◌≤◌, ◌<◌}
use native.Mathlib.Omega.{arith}
use lib.ListN.{length, get_or, drop, get_or-eq_default}
use lib.Seq.{get_or-drop}
use Rattle.model.specs.Seat.{padded}

pub padded-length : (n : ℕ) (xs : List ℕ) → length (padded n xs) ≡ n
unfolding padded
padded-length zero xs = refl
padded-length (suc n) [] = ap suc (padded-length n [])
padded-length (suc n) (x ∷ xs) = ap suc (padded-length n xs)

padded_at : (n : ℕ) (xs : List ℕ) (i : ℕ) → i < n → get_or (padded n xs) i 0 ≡ get_or xs i 0
unfolding padded
padded_at zero xs i h = absurd (omega arith)
padded_at (suc n) [] zero h = refl
padded_at (suc n) [] (suc i) h = padded_at n [] i (omega arith)
padded_at (suc n) (x ∷ xs) zero h = refl
padded_at (suc n) (x ∷ xs) (suc i) h = padded_at n xs i (omega arith)

pub inner_at : (start size i : ℕ) (all : List ℕ) → i < size → get_or (padded size (drop start all)) i 0 ≡ get_or all (start + i) 0
inner_at start size i all h = padded_at size (drop start all) i h ∙ get_or-drop start all i 0

pub outer_at : (start size i : ℕ) (all : List ℕ) → size ≤ i → get_or (padded size (drop start all)) i 0 ≡ 0
outer_at start size i all h = let e = padded-length size (drop start all) in get_or-eq_default (padded size (drop start all)) 0 (omega arith)
