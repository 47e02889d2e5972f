-- What a member's program is started with, what it holds, and what it answers. Assumes nothing.
use Rattle.std.specs.Prelude.{ℕ, zero, suc, Bool, true, false, List, [], ◌∷◌, ◌++◌, Option}
use Rattle.model.specs.Thresholds.{members}
use Rattle.model.specs.Blocks.{Block}
use Rattle.model.specs.Member.{Member, new_member}
use Rattle.wire.specs.Messages.{WireBlock}

-- What never changes: at most f members are bad; me is the program's own number; right tells whether a member's signature of a message is right;
-- signs what the program signs a message by, after all that it has signed before, if its keys aren't used up; digest names bytes.
pub record Setting : Type 0 where
  pub f : ℕ
  pub me : ℕ
  pub right : ℕ → List ℕ → List ℕ → Bool
  pub signs : List (List ℕ) → List ℕ → Option (List ℕ)
  pub digest : List ℕ → List ℕ

-- What is kept beside a block of the book: its hash, its author's signature of its bytes, the members' signatures that were met, a slot for each
-- member, and whether it is in the web.
pub record Entry : Type 0 where
  pub hash : List ℕ
  pub signature : List ℕ
  pub kept : List (Option (List ℕ))
  pub taken : Bool

-- The book by hashes: its blocks, each with its place as its name, and at the same place what is kept beside it.
pub record Shelf : Type 0 where
  pub blocks : List Block
  pub entries : List Entry

-- a signature of a block that isn't in the book, as its member's queue holds it
pub record Loose : Type 0 where
  pub hash : List ℕ
  pub signature : List ℕ

-- a block that waits for parents
pub record Held : Type 0 where
  pub block : WireBlock
  pub hash : List ℕ
  pub signature : List ℕ

-- What is answered. ToOne i bytes and ToAll bytes: a message for member i, for all. Ordered author round load: a block of the order. Refused: the
-- number of the refusal. TwoBlocks: two blocks have one hash, and the program ends.
pub data Out : Type 0 where
  ToOne : ℕ → List ℕ → Out
  ToAll : List ℕ → Out
  Ordered : ℕ → ℕ → List ℕ → Out
  Refused : ℕ → Out
  TwoBlocks : Out

-- shelf: the book. seat: the web, what was signed, the next round. made: the names of its own blocks, the earliest first. loose: for each member the
-- signatures that wait for their blocks, the oldest first. waiting: blocks that wait for parents, the oldest first. loads: what is still to be put into
-- blocks, the oldest first. printed: so much of the order was printed. said: all that it ever signed, the newest first. stopped: it met two blocks with
-- one hash. outs: the answers to the line that is being handled, the first one first.
pub record State : Type 0 where
  pub shelf : Shelf
  pub seat : Member
  pub made : List ℕ
  pub loose : List (List Loose)
  pub waiting : List Held
  pub loads : List (List ℕ)
  pub printed : ℕ
  pub said : List (List ℕ)
  pub stopped : Bool
  pub outs : List Out

-- at most so many blocks wait for parents, so many signatures of each member for their blocks, and so many loads
abbrev pub max_waiting : ℕ
max_waiting = 64

abbrev pub max_loose : ℕ
max_loose = 64

abbrev pub max_loads : ℕ
max_loads = 64

unfoldable pub empty_queues : ℕ → List (List Loose)
empty_queues zero = []
empty_queues (suc n) = [] ∷ empty_queues n

-- before it has made its first block
abbrev pub blank : Setting → State
blank c =
    record {
      shelf = record { blocks = []; entries = [] };
      seat = new_member;
      made = [];
      loose = empty_queues (members c.f);
      waiting = [];
      loads = [];
      printed = 0;
      said = [];
      stopped = false;
      outs = [];
    }

-- the state with one part changed
abbrev pub with_shelf : Shelf → State → State
with_shelf x s = record { shelf = x; seat = s.seat; made = s.made; loose = s.loose; waiting = s.waiting; loads = s.loads; printed = s.printed; said = s.said; stopped = s.stopped; outs = s.outs }

abbrev pub with_seat : Member → State → State
with_seat x s = record { shelf = s.shelf; seat = x; made = s.made; loose = s.loose; waiting = s.waiting; loads = s.loads; printed = s.printed; said = s.said; stopped = s.stopped; outs = s.outs }

abbrev pub with_made : List ℕ → State → State
with_made x s = record { shelf = s.shelf; seat = s.seat; made = x; loose = s.loose; waiting = s.waiting; loads = s.loads; printed = s.printed; said = s.said; stopped = s.stopped; outs = s.outs }

abbrev pub with_loose : List (List Loose) → State → State
with_loose x s = record { shelf = s.shelf; seat = s.seat; made = s.made; loose = x; waiting = s.waiting; loads = s.loads; printed = s.printed; said = s.said; stopped = s.stopped; outs = s.outs }

abbrev pub with_waiting : List Held → State → State
with_waiting x s = record { shelf = s.shelf; seat = s.seat; made = s.made; loose = s.loose; waiting = x; loads = s.loads; printed = s.printed; said = s.said; stopped = s.stopped; outs = s.outs }

abbrev pub with_loads : List (List ℕ) → State → State
with_loads x s = record { shelf = s.shelf; seat = s.seat; made = s.made; loose = s.loose; waiting = s.waiting; loads = x; printed = s.printed; said = s.said; stopped = s.stopped; outs = s.outs }

abbrev pub with_printed : ℕ → State → State
with_printed x s = record { shelf = s.shelf; seat = s.seat; made = s.made; loose = s.loose; waiting = s.waiting; loads = s.loads; printed = x; said = s.said; stopped = s.stopped; outs = s.outs }

abbrev pub with_said : List (List ℕ) → State → State
with_said x s = record { shelf = s.shelf; seat = s.seat; made = s.made; loose = s.loose; waiting = s.waiting; loads = s.loads; printed = s.printed; said = x; stopped = s.stopped; outs = s.outs }

abbrev pub with_stopped : Bool → State → State
with_stopped x s = record { shelf = s.shelf; seat = s.seat; made = s.made; loose = s.loose; waiting = s.waiting; loads = s.loads; printed = s.printed; said = s.said; stopped = x; outs = s.outs }

abbrev pub with_outs : List Out → State → State
with_outs x s = record { shelf = s.shelf; seat = s.seat; made = s.made; loose = s.loose; waiting = s.waiting; loads = s.loads; printed = s.printed; said = s.said; stopped = s.stopped; outs = x }

-- more answers
abbrev pub saying : List Out → State → State
saying more s = with_outs (s.outs ++ more) s

-- a refusal changes nothing else
abbrev pub refuse : ℕ → State → State
refuse reason s = saying (Refused reason ∷ []) s

-- two blocks with one hash: that is said, and nothing more is done
abbrev pub stop : State → State
stop s = with_stopped true (saying (TwoBlocks ∷ []) s)
