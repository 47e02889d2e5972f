-- What reading the order asks of a web. Assumes nothing.
use Rattle.std.specs.Prelude.{ℕ, ◌≤◌, T, List, length}
use Rattle.model.specs.Names.{distinct}
use Rattle.model.specs.Blocks.{Book}
use Rattle.model.specs.Seat.{fit, seat_limit}
use Rattle.model.specs.Promise.{whole_all}

-- all that is reached from its blocks is there; nothing is there twice; its blocks are valid and no two are of one author and round; and
-- there are no more than a seat has room for
pub record Readable (f : ℕ) (b : Book) (web : List ℕ) : Type 0 where
  pub whole : T (whole_all b web web)
  pub once : T (distinct web)
  pub fits : T (fit f b web)
  pub room : length web ≤ seat_limit
