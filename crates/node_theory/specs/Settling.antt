-- Dealing with blocks, taking in, and what follows from it until nothing is left to do. Assumes nothing.
use Rattle.std.specs.Prelude.{ℕ, zero, suc, Bool, true, cond, not, ◌&&◌, List, [], length, is_some, Some, None, Option, ◌==◌, nat_lt, slice_index_or}
use Rattle.std.specs.List.{remove}
use Rattle.model.specs.Blocks.{Block, valid}
use Rattle.model.specs.Member.{after_take}
use Rattle.model.specs.Seat.{done, sign_answer, take_answer}
use Rattle.book.specs.Content.{max_blocks}
use Rattle.book.specs.Meeting.{block_of}
use Rattle.wire.specs.Messages.{WireBlock}
use Rattle.node_theory.specs.State.{Setting, Held, State, with_shelf, with_seat, with_waiting, refuse, stop}
use Rattle.node_theory.specs.Shelf.{book_in, entry_at, names_for, Look, Known, Fresh, Clash, look, put_in, certified_in, all_taken, entry_taken, with_entry}
use Rattle.node_theory.specs.Making.{signed_in, making}

-- ---- dealing with a block whose parents are in the book
-- In s: the block is in the book, and this is the state. Not r: it is refused for the reason r, and stays out. Clashes: its hash is another block's.
pub data Dealt : Type 0 where
  In : State → Dealt
  Not : ℕ → Dealt
  Clashes : Dealt

-- the numbers of refusals, in the order in which they are looked for; then those of the seat's answers
abbrev pub not_a_message : ℕ
not_a_message = 11

abbrev pub not_there : ℕ
not_there = 12

abbrev pub wrong_signature : ℕ
wrong_signature = 13

abbrev pub not_valid : ℕ
not_valid = 14

abbrev pub no_room_in_book : ℕ
no_room_in_book = 15

-- The block x of the state s, in whose book it is, is judged: whether it is valid, whether the book has room for it, whether the seat signs it. What the
-- seat doesn't sign stays in only with a quorum of signatures.
unfoldable pub judge : Setting → ℕ → State → Dealt
judge c x s =
    let a = sign_answer c.f (book_in s) true x s.seat in
    cond (not (valid c.f (book_in s) (book_in s x))) (Not not_valid)
    (cond (nat_lt max_blocks (length s.shelf.blocks)) (Not no_room_in_book)
    (cond (a == done) (In (signed_in c x s)) (cond (certified_in c x s) (In s) (Not a))))

abbrev pub deal_looked : Setting → Block → List ℕ → List ℕ → State → Look → Dealt
deal_looked c k h signature s (Known x) = judge c x s
deal_looked c k h signature s Fresh = judge c (length s.shelf.blocks) (put_in k h signature s)
deal_looked c k h signature s Clash = Clashes

-- a block with its hash and its author's signature, its parents having these names
unfoldable pub deal : Setting → WireBlock → List ℕ → List ℕ → List ℕ → State → Dealt
deal c w h signature names s =
    let k = block_of w.author w.round names w.load in
    deal_looked c k h signature s (look k h s.shelf)

-- ---- what is left to do
-- the least number below n that passes the test
abbrev pub first_passing : (ℕ → Bool) → ℕ → Option ℕ → Option ℕ
first_passing p n (Some x) = Some x
first_passing p n None = cond (p n) (Some n) None

unfoldable pub least_below : (ℕ → Bool) → ℕ → Option ℕ
least_below p zero = None
least_below p (suc n) = first_passing p n (least_below p n)

-- the block x can be taken in: it is certified, isn't in the web, its parents are, and the seat takes it (no rival of it is in the web)
unfoldable pub takes : Setting → State → ℕ → Bool
takes c s x =
    not (entry_at s.shelf x).taken && certified_in c x s && all_taken s.shelf (book_in s x).parents
    && take_answer (book_in s) true x s.seat == done

abbrev pub no_held : Held
no_held = record { block = record { author = 0; round = 0; parents = []; load = [] }; hash = []; signature = [] }

-- the i-th of the blocks that wait has all its parents in the book
abbrev pub complete : State → ℕ → Bool
complete s i = is_some (names_for s.shelf (slice_index_or s.waiting i no_held).block.parents)

-- TakeIn x: the block x is to be taken in. DealWith i: the i-th block that waits is to be dealt with. Rest: nothing is left to do.
pub data Todo : Type 0 where
  TakeIn : ℕ → Todo
  DealWith : ℕ → Todo
  Rest : Todo

abbrev pub or_deal : Option ℕ → Todo
or_deal (Some i) = DealWith i
or_deal None = Rest

abbrev pub or_take : Option ℕ → Todo → Todo
or_take (Some x) other = TakeIn x
or_take None other = other

-- takes come first, the lowest name first; then, of the blocks that wait, the oldest that lacks no parent
unfoldable pub todo : Setting → State → Todo
todo c s =
    or_take (least_below (takes c s) (length s.shelf.entries)) (or_deal (least_below (complete s) (length s.waiting)))

-- ---- doing it
unfoldable pub take_in : ℕ → State → State
take_in x s = with_seat (after_take x s.seat) (with_shelf (with_entry x (entry_taken (entry_at s.shelf x)) s.shelf) s)

-- a committee of one makes blocks only when it is told to
abbrev pub making_on : Setting → State → State
making_on c s = cond (c.f == 0) s (making c s)

abbrev pub after_dealt : State → Dealt → State
after_dealt s (In t) = t
after_dealt s (Not reason) = refuse reason s
after_dealt s Clashes = stop s

abbrev pub deal_held_with : Setting → Held → State → Option (List ℕ) → State
deal_held_with c held s None = s
deal_held_with c held s (Some names) = after_dealt s (deal c held.block held.hash held.signature names s)

-- the i-th block that waits is gone from those that wait, and dealt with
unfoldable pub deal_held : Setting → ℕ → State → State
deal_held c i s =
    let held = slice_index_or s.waiting i no_held in
    deal_held_with c held (with_waiting (remove s.waiting i) s) (names_for s.shelf held.block.parents)

abbrev pub did : Setting → State → Todo → State
did c s (TakeIn x) = making_on c (take_in x s)
did c s (DealWith i) = deal_held c i s
did c s Rest = s

-- turn by turn, until nothing is left to do; a program that has stopped does nothing more
unfoldable pub settling : Setting → ℕ → State → State
settling c zero s = s
settling c (suc n) s = cond s.stopped s (settling c n (did c s (todo c s)))

-- So many turns are enough: each takes in a block or ends the waiting of one.
abbrev pub max_turns : ℕ
max_turns = 4161

abbrev pub settled : Setting → State → State
settled c s = settling c max_turns s
