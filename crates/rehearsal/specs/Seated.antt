-- What the seats of a committee hold. Assumes nothing.
use Rattle.std.specs.Prelude.{◌≡◌, ℕ, ◌<◌, Bool, cond, ◌&&◌, List, map, length, ◌==◌, nat_lt, slice_index_or, slice_set}
use Rattle.replica.specs.declared.replica.Replica.{Replica}
use Rattle.replica.specs.Held.{held as member_of}
use Rattle.model.specs.Member.{Member, new_member}
use Rattle.model.specs.Seat.{answer, done}

-- the members hold these, each in the seat at its number's place
pub record Sit (ms : List Member) (seats : List Replica) : Type 0 where
  pub hold : map member_of seats ≡ ms
  pub numbered : (i : ℕ) (d : Replica) → i < length seats → (slice_index_or seats i d).number ≡ i

-- A step of member i, whose answer has this number: whatever the members held, it was answered as it may be done and has room, and if it was
-- done the member holds what it should then; else nothing changed.
pub record StepsFrom (ms : List Member) (i : ℕ) (may full : Member → Bool) (next : Member → Member) (given : ℕ) (seats : List Replica) : Type 0 where
  pub right : given ≡ answer (nat_lt i (length ms) && may (slice_index_or ms i new_member)) (full (slice_index_or ms i new_member))
  pub after : Sit (cond (given == done) (slice_set ms i (next (slice_index_or ms i new_member))) ms) seats

abbrev pub Steps : List Replica → ℕ → (Member → Bool) → (Member → Bool) → (Member → Member) → ℕ → List Replica → Type 0
Steps old i may full next given new = (ms : List Member) → Sit ms old → StepsFrom ms i may full next given new
