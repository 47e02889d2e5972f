-- The numbers of a seat's answers, what a refusal prints, and what a leave to sign is given for. Assumes nothing.
use Rattle.std.specs.Prelude.{◌≡◌, ℕ, List, Result, Ok, Err, codes}
use Rattle.model.specs.Seat.{done, may_not, no_room}
use Rattle.replica.specs.declared.seat.Denied.{Denied}
use Rattle.replica.specs.declared.seat.Denied.TheVariants.{MayNot, NoRoom}
use Rattle.replica.specs.declared.replica.leave.LeaveToSign.{LeaveToSign}

-- the number of each answer, whatever is given with it
abbrev pub number_of : {A : Type 0} → Result A Denied → ℕ
number_of (Ok _) = done
number_of (Err MayNot) = may_not
number_of (Err NoRoom) = no_room

-- what a refusal prints
abbrev pub told : Denied → List ℕ
told MayNot = codes "it may not be done"
told NoRoom = codes "there is no room"

-- where leave is given, it is given to member i, for the block x
abbrev pub LeaveFor : ℕ → ℕ → Result LeaveToSign Denied → Type 0
LeaveFor i x (Ok leave) = (leave.number ≡ i) × (leave.name ≡ x)
LeaveFor i x (Err _) = Unit {0}
