-- What one reaches from a block: itself, its parents, their parents and so on. Assumes nothing.
use Rattle.std.specs.Prelude.{List, [], ◌∷◌, ℕ, zero, suc}
use Rattle.model.specs.Names.{union}
use Rattle.model.specs.Blocks.{Book}

-- the parents of all blocks of the list
unfoldable pub parents_of : Book → List ℕ → List ℕ
parents_of b [] = []
parents_of b (x ∷ xs) = union (b x).parents (parents_of b xs)

-- the list with all that is at most so many steps back from it
unfoldable pub back : Book → ℕ → List ℕ → List ℕ
back b zero xs = xs
back b (suc n) xs = back b n (union (parents_of b xs) xs)

-- what is reached from x: from valid blocks each step goes to an earlier round, so as many steps are enough as its round says
unfoldable pub reached : Book → ℕ → List ℕ
reached b x = back b (b x).round (x ∷ [])
