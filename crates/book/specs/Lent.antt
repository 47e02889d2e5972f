-- A list in lent memory. Assumes nothing.
use Rattle.std.specs.Prelude.{ℕ, List}

-- the items, and for how many the memory has room in all
pub record Listed (X : Type 0) : Type 0 where
  pub items : List X
  pub room : ℕ
