-- What a member's order is, and what is promised of it. Assumes nothing.
use Rattle.std.specs.Prelude.{◌≡◌, ℕ, true, false, T, ◌⊎◌, List, [], ◌++◌, length, Some, None, Option, nat_lt}
use Rattle.model.specs.Names.{is_in, distinct}
use Rattle.model.specs.Thresholds.{members}
use Rattle.model.specs.Blocks.{Block}
use Rattle.model.specs.World.{Event, good, order_of}
use Rattle.model.specs.Promise.{Begins}
use Rattle.rehearsal.specs.Books.{about_below}
use Rattle.rehearsal.specs.Scenes.{Scene, is_bad, book_in, world_in}

abbrev pub order_in : Scene → ℕ → List ℕ
order_in s i = order_of s.faults (book_in s) (is_bad s) i s.events

-- an earlier moment of the same script: fewer events, which are about its blocks, and a book that has since grown
pub record Earlier (s t : Scene) : Type 0 where
  pub faults : s.faults ≡ t.faults
  pub bad : s.bad ≡ t.bad
  pub more : List Block
  pub blocks : s.blocks ++ more ≡ t.blocks
  pub next : List Event
  pub events : next ++ s.events ≡ t.events
  pub about : T (about_below (length s.blocks) s.events)

-- A good member's order is the definition's. It and every other good member's are beginnings of one another; it goes on from what it was after any
-- earlier part of the script; nothing stands in it twice, and nothing in a good member's name that it didn't make.
pub record Promised (s : Scene) (i : ℕ) (names : List ℕ) : Type 0 where
  pub is : names ≡ order_in s i
  pub agrees : (j : ℕ) → T (good s.faults (is_bad s) j) → Begins names (order_in s j) ⊎ Begins (order_in s j) names
  pub grows : (earlier : Scene) → Earlier earlier s → Begins (order_in earlier i) names
  pub twice : T (distinct names)
  pub forged : (x : ℕ) → T (is_in x names) → T (good s.faults (is_bad s) (book_in s x).author) → T (is_in x (world_in s).made)

-- the names that are given as member i's order: none if there is no such member, and the empty order if it is bad
pub record OrderIs (s : Scene) (i : ℕ) (o : Option (List ℕ)) : Type 0 where
  pub nobody : nat_lt i (members s.faults) ≡ false → o ≡ None
  pub bad_empty : nat_lt i (members s.faults) ≡ true → is_bad s i ≡ true → o ≡ Some []
  pub promised : T (good s.faults (is_bad s) i) → (names : List ℕ) × (o ≡ Some names) × Promised s i names
