-- Lists of names, or of members, read as sets: what is in one, and how many different ones it has. Assumes nothing.
use Rattle.std.specs.Prelude.{Bool, true, false, cond, ◌&&◌, ◌||◌, not, List, [], ◌∷◌, ℕ, suc, ◌==◌, nat_lt}

-- x stands in the list
unfoldable pub is_in : ℕ → List ℕ → Bool
is_in x [] = false
is_in x (y ∷ ys) = x == y || is_in x ys

-- all of the first list stands in the second
unfoldable pub all_in : List ℕ → List ℕ → Bool
all_in [] ys = true
all_in (x ∷ xs) ys = is_in x ys && all_in xs ys

-- nothing stands twice
unfoldable pub distinct : List ℕ → Bool
distinct [] = true
distinct (x ∷ xs) = not (is_in x xs) && distinct xs

-- how many different ones there are
unfoldable pub different : List ℕ → ℕ
different [] = 0
different (x ∷ xs) = cond (is_in x xs) (different xs) (suc (different xs))

-- each is below n
unfoldable pub all_below : ℕ → List ℕ → Bool
all_below n [] = true
all_below n (x ∷ xs) = nat_lt x n && all_below n xs

-- both lists' names, those of the first that the second lacks in front of it
unfoldable pub union : List ℕ → List ℕ → List ℕ
union [] ys = ys
union (x ∷ xs) ys = cond (is_in x ys) (union xs ys) (x ∷ union xs ys)

-- the second list without what stands in the first
unfoldable pub without : List ℕ → List ℕ → List ℕ
without done [] = []
without done (x ∷ xs) = cond (is_in x done) (without done xs) (x ∷ without done xs)
