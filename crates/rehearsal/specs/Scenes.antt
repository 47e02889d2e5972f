-- What a script has said so far: which members are bad, the blocks and the words for them, and the events that happened; and what may happen
-- next. Assumes nothing.
use Rattle.std.specs.Prelude.{ℕ, Bool, not, ◌&&◌, ◌||◌, List, [], ◌∷◌, ◌++◌, length, nat_le, nat_lt}
use Rattle.book.specs.Content.{book_of}
use Rattle.model.specs.Names.{is_in, different}
use Rattle.model.specs.Thresholds.{members}
use Rattle.model.specs.Blocks.{Block, Book}
use Rattle.model.specs.Member.{signable, takable, makable}
use Rattle.model.specs.Seat.{full_signed, full_web, full_round}
use Rattle.model.specs.World.{World, Event, Makes as makes, Signs as signs, Takes as takes, Forges as forges, member_at, good, genuine, certified, world}
use Rattle.rehearsal.specs.declared.act.Act.{Act}
use Rattle.rehearsal.specs.declared.act.Act.TheVariants.{Makes, Signs, Takes, Forges}
use Rattle.rehearsal.specs.Words.{Naming}

-- faults: at most so many members are bad; bad: these were said to be; blocks: each has its place as its name; words: the earliest first;
-- events: the latest first
pub record Scene : Type 0 where
  pub faults : ℕ
  pub bad : List ℕ
  pub blocks : List Block
  pub words : List Naming
  pub events : List Event

abbrev pub is_bad : Scene → ℕ → Bool
is_bad s i = is_in i s.bad

abbrev pub book_in : Scene → Book
book_in s = book_of s.blocks

-- the world of the events
abbrev pub world_in : Scene → World
world_in s = world s.faults (book_in s) (is_bad s) s.events

abbrev pub event_of : Act → ℕ → ℕ → Event
event_of Makes i x = makes i x
event_of Signs i x = signs i x
event_of Takes i x = takes i x
event_of Forges i x = forges i x

-- member i may do this with block x, and has room
abbrev pub may_happen : Scene → Act → ℕ → ℕ → Bool
may_happen s Makes i x =
    let m = member_at i (world_in s) in good s.faults (is_bad s) i && (makable s.faults (book_in s) i x m && not (full_round m))
may_happen s Signs i x =
    let m = member_at i (world_in s) in
    good s.faults (is_bad s) i && (signable s.faults (book_in s) (genuine (book_in s) (is_bad s) x (world_in s)) x m && not (full_signed m))
may_happen s Takes i x =
    let m = member_at i (world_in s) in
    good s.faults (is_bad s) i && (takable (book_in s) (certified s.faults x (world_in s)) x m && not (full_web m))
may_happen s Forges i x = nat_lt i (members s.faults) && is_bad s i

abbrev pub with_event : Event → Scene → Scene
with_event e s = record { faults = s.faults; bad = s.bad; blocks = s.blocks; words = s.words; events = e ∷ s.events }

-- at the start: no member is said to be bad, and nothing has happened
abbrev pub opening : ℕ → Scene
opening f = record { faults = f; bad = []; blocks = []; words = []; events = [] }

-- a member may be said to be bad before a block is named, if there is such a member, and not too many of them are then
abbrev pub may_be_bad : Scene → ℕ → Bool
may_be_bad s i =
    nat_le (length s.blocks) 0 && nat_lt i (members s.faults) && (is_bad s i || nat_lt (different s.bad) s.faults)

abbrev pub with_bad : ℕ → Scene → Scene
with_bad i s = record { faults = s.faults; bad = i ∷ s.bad; blocks = s.blocks; words = s.words; events = s.events }

abbrev pub with_blocks : List Block → Scene → Scene
with_blocks ks s = record { faults = s.faults; bad = s.bad; blocks = ks; words = s.words; events = s.events }

abbrev pub with_word : List ℕ → ℕ → Scene → Scene
with_word text x s =
    record { faults = s.faults; bad = s.bad; blocks = s.blocks; words = s.words ++ (record { text = text; name = x } ∷ []); events = s.events }
