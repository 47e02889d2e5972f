-- That the parts of a committee hold the world of what a script has said. Assumes nothing.
use Rattle.std.specs.Prelude.{◌≡◌, ℕ, ◌≤◌, T, List, map, length, vec_items}
use Rattle.book.specs.declared.book.Book.{Book as TheBook}
use Rattle.book.specs.Books.{blocks}
use Rattle.members.specs.declared.faults.Faults.{Faults}
use Rattle.members.specs.declared.MemberSet.{MemberSet}
use Rattle.members.specs.Sets.{Holds}
use Rattle.model.specs.Names.{different, all_below}
use Rattle.model.specs.Seat.{seat_limit}
use Rattle.model.specs.World.{member_at}
use Rattle.rehearsal.specs.declared.seats.Seats.{Seats}
use Rattle.rehearsal.specs.declared.notes.Notes.{Notes}
use Rattle.rehearsal.specs.Books.{about_below}
use Rattle.rehearsal.specs.Words.{Naming}
use Rattle.rehearsal.specs.Seated.{Sit}
use Rattle.rehearsal.specs.Noted.{Noted}
use Rattle.rehearsal.specs.Scenes.{Scene, world_in}

-- what a committee holds
pub record Parts : Type 0 where
  pub faults : Faults
  pub book : TheBook
  pub bad : MemberSet
  pub seats : Seats
  pub notes : Notes
  pub words : List Naming

-- THE PARTS HOLD THE WORLD of the script's events: each member's seat holds what the member holds there, each block's note has who signed it
-- there and whether it was made there; the book has the script's blocks, and the glossary its words. At most as many members are bad as may
-- be, no member has taken in more than a seat has room for, and events and words are about blocks that are there.
pub record HoldWorld (s : Scene) (c : Parts) : Type 0 where
  pub faults : c.faults.f ≡ s.faults
  pub bad : Holds c.bad.bits s.bad
  pub seats : Sit (world_in s).all (vec_items c.seats.seats)
  pub book : blocks c.book ≡ s.blocks
  pub notes : Noted (world_in s).signatures (world_in s).made (vec_items c.notes.notes)
  pub noted : length (vec_items c.notes.notes) ≡ length s.blocks
  pub words : c.words ≡ s.words
  pub few : different s.bad ≤ s.faults
  pub room : (i : ℕ) → length (member_at i (world_in s)).web ≤ seat_limit
  pub about : T (about_below (length s.blocks) s.events)
  pub known : T (all_below (length s.blocks) (map (λ (n : Naming). n.name) s.words))

-- the parts hold the world of some script's events
abbrev pub Played : Parts → Type 0
Played c = (s : Scene) × HoldWorld s c
