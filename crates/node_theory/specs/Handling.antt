-- WHAT A PROGRAM DOES WITH A LINE: from the state before it to the state after it, with the answers in it. Assumes nothing.
use Rattle.std.specs.Prelude.{ℕ, zero, suc, ◌-◌, Bool, false, cond, not, ◌&&◌, ◌||◌, List, [], ◌∷◌, ◌++◌, map, length, drop, is_some, Some, None, Option, ◌==◌, nat_le, nat_lt, slice_index_or, slice_set}
use Rattle.std.specs.Str.{bytes_eq}
use Rattle.model.specs.Thresholds.{members}
use Rattle.model.specs.Blocks.{Block, Book}
use Rattle.model.specs.Order.{order}
use Rattle.model.specs.Seat.{round_limit}
use Rattle.wire.specs.Messages.{WireBlock, Message, SaysBlock, SaysSigned, Asks, block_bytes, signed_bytes, message_bytes}
use Rattle.node_theory.specs.State.{Setting, Shelf, Loose, Held, Out, ToOne, ToAll, Ordered, State, blank, max_waiting, max_loose, max_loads, with_loose, with_waiting, with_loads, with_printed, with_outs, saying, refuse, stop}
use Rattle.node_theory.specs.Shelf.{
  book_in,
  entry_at,
  hash_at,
  find,
  names_for,
  missing,
  loose_for,
  certified_in,
  keeping,
  block_message,
  signature_message,
}
use Rattle.node_theory.specs.Making.{making}
use Rattle.node_theory.specs.Settling.{not_a_message, not_there, wrong_signature, no_room_in_book, Dealt, In, Not, Clashes, deal, settled}

-- From i m: member i's line brought the message m. Load: bytes that are to be put into a block. Again: to send once more what others may lack. PrintOrder:
-- to print what is new in the order. Unknown: any other line.
pub data Line : Type 0 where
  From : ℕ → Message → Line
  Load : List ℕ → Line
  Again : Line
  PrintOrder : Line
  Unknown : Line

-- a queue that holds at most so many, with one more at its end: the oldest is thrown out where there is no room
unfoldable pub queued : {A : Type 0} → ℕ → List A → A → List A
queued room xs x = cond (nat_le room (length xs)) (drop 1 xs ++ (x ∷ [])) (xs ++ (x ∷ []))

abbrev pub ask_of : List ℕ → List ℕ
ask_of h = message_bytes (Asks h)

-- ---- a block
-- a block with this hash waits
unfoldable pub is_waiting : List ℕ → List Held → Bool
is_waiting h [] = false
is_waiting h (x ∷ xs) = bytes_eq x.hash h || is_waiting h xs

-- It lacks parents: it waits, and whoever sent it is asked for them. One that waits already changes nothing.
unfoldable pub wait_for : ℕ → Held → State → State
wait_for from held s =
    cond (is_waiting held.hash s.waiting) s
    (saying (map (λ h. ToOne from (ask_of h)) (missing s.shelf held.block.parents))
    (with_waiting (queued max_waiting s.waiting held) s))

-- a refused message changes nothing else; after any other it is seen what follows
abbrev pub after_own : Setting → State → Dealt → State
after_own c s (In t) = settled c t
after_own c s (Not reason) = refuse reason s
after_own c s Clashes = stop s

abbrev pub heard_block_with : Setting → ℕ → WireBlock → List ℕ → State → Option (List ℕ) → State
heard_block_with c from w signature s None = wait_for from (record { block = w; hash = c.digest (block_bytes w); signature = signature }) s
heard_block_with c from w signature s (Some names) = after_own c s (deal c w (c.digest (block_bytes w)) signature names s)

unfoldable pub heard_block : Setting → ℕ → WireBlock → List ℕ → State → State
heard_block c from w signature s =
    cond (not (nat_lt w.author (members c.f)) || nat_le round_limit w.round) (refuse not_there s)
    (cond (not (c.right w.author (block_bytes w) signature)) (refuse wrong_signature s)
    (heard_block_with c from w signature s (names_for s.shelf w.parents)))

-- ---- a signature
-- a signature of a block that isn't in the book waits in its member's queue, once
abbrev pub queue_with : List ℕ → List ℕ → List Loose → List Loose
queue_with h signature queue = cond (is_some (loose_for h queue)) queue (queued max_loose queue (record { hash = h; signature = signature }))

abbrev pub heard_signature_for : Setting → ℕ → List ℕ → List ℕ → State → Option ℕ → State
heard_signature_for c who h signature s (Some x) = settled c (keeping x who signature s)
heard_signature_for c who h signature s None = with_loose (slice_set s.loose who (queue_with h signature (slice_index_or s.loose who []))) s

unfoldable pub heard_signature : Setting → ℕ → List ℕ → List ℕ → State → State
heard_signature c who h signature s =
    cond (not (nat_lt who (members c.f))) (refuse not_there s)
    (cond (not (c.right who (signed_bytes who h) signature)) (refuse wrong_signature s)
    (heard_signature_for c who h signature s (find h s.shelf)))

-- ---- being asked
-- a member's signature that is kept, as a message
abbrev pub kept_for : Shelf → ℕ → ℕ → Option (List ℕ) → List (List ℕ)
kept_for shelf x who None = []
kept_for shelf x who (Some signature) = signature_message shelf x who signature ∷ []

-- those of the first n members, by rising members
unfoldable pub kept_messages : Shelf → ℕ → ℕ → List (List ℕ)
kept_messages shelf x zero = []
kept_messages shelf x (suc n) = kept_messages shelf x n ++ kept_for shelf x n (slice_index_or (entry_at shelf x).kept n None)

abbrev pub answer_for : Setting → ℕ → State → Option ℕ → State
answer_for c from s None = s
answer_for c from s (Some x) =
    saying (map (ToOne from) (kept_messages s.shelf x (members c.f) ++ (block_message s.shelf x ∷ []))) s

unfoldable pub heard_ask : Setting → ℕ → List ℕ → State → State
heard_ask c from h s = answer_for c from s (find h s.shelf)

-- ---- a message
abbrev pub heard : Setting → ℕ → Message → State → State
heard c from (SaysBlock w signature) s = heard_block c from w signature s
heard c from (SaysSigned who h signature) s = heard_signature c who h signature s
heard c from (Asks h) s = heard_ask c from h s

-- ---- a load
-- a committee of one makes a block when it is told to
abbrev pub making_alone : Setting → State → State
making_alone c s = cond (c.f == 0) (settled c (making c s)) s

unfoldable pub loaded : Setting → List ℕ → State → State
loaded c bytes s =
    cond (nat_le max_loads (length s.loads)) (refuse no_room_in_book s) (making_alone c (with_loads (s.loads ++ (bytes ∷ [])) s))

-- ---- again
-- the names of its last two blocks, the earlier one first
abbrev pub last_two : State → List ℕ
last_two s = drop (length s.made - 2) s.made

-- the block of this author and round among these
unfoldable pub block_by : Book → ℕ → ℕ → List ℕ → Option ℕ
block_by b author round [] = None
block_by b author round (x ∷ xs) = cond ((b x).author == author && (b x).round == round) (Some x) (block_by b author round xs)

abbrev pub signature_out : Setting → Shelf → ℕ → Option (List ℕ) → List Out
signature_out c shelf x None = []
signature_out c shelf x (Some signature) = ToAll (signature_message shelf x c.me signature) ∷ []

abbrev pub own_signature_of : Setting → State → Option ℕ → List Out
own_signature_of c s None = []
own_signature_of c s (Some x) = signature_out c s.shelf x (slice_index_or (entry_at s.shelf x).kept c.me None)

-- its signatures of blocks of this round by the first n members, by rising authors
unfoldable pub signatures_at : Setting → State → ℕ → ℕ → List Out
signatures_at c s round zero = []
signatures_at c s round (suc n) = signatures_at c s round n ++ own_signature_of c s (block_by (book_in s) n round s.seat.signed)

unfoldable pub signatures_for : Setting → State → List ℕ → List Out
signatures_for c s [] = []
signatures_for c s (x ∷ xs) = signatures_at c s (book_in s x).round (members c.f) ++ signatures_for c s xs

-- the hashes of all parents of blocks that wait
unfoldable pub parents_wanted : List Held → List (List ℕ)
parents_wanted [] = []
parents_wanted (x ∷ xs) = x.block.parents ++ parents_wanted xs

-- the hashes of those of the first n blocks that have too few signatures, by rising names
unfoldable pub uncertified : Setting → State → ℕ → List (List ℕ)
uncertified c s zero = []
uncertified c s (suc n) = uncertified c s n ++ cond (certified_in c n s) [] (hash_at s.shelf n ∷ [])

-- what others may lack, and then what it lacks
unfoldable pub repeated : Setting → State → State
repeated c s =
    saying (map (λ h. ToAll (ask_of h)) (uncertified c s (length s.shelf.entries)))
    (saying (map (λ h. ToAll (ask_of h)) (missing s.shelf (parents_wanted s.waiting)))
    (saying (signatures_for c s (last_two s)) (saying (map (λ x. ToAll (block_message s.shelf x)) (last_two s)) s)))

-- ---- the order
abbrev pub line_of : Block → Out
line_of k = Ordered k.author k.round k.load

abbrev pub order_in : Setting → State → List ℕ
order_in c s = order c.f (book_in s) s.seat.web

-- what is new in the order since it was last printed
unfoldable pub print_order : Setting → State → State
print_order c s = with_printed (length (order_in c s)) (saying (map (λ x. line_of (book_in s x)) (drop s.printed (order_in c s))) s)

-- ---- a line
abbrev pub acted : Setting → Line → State → State
acted c (From from m) s = cond (nat_lt from (members c.f)) (heard c from m s) (refuse not_there s)
acted c (Load bytes) s = loaded c bytes s
acted c Again s = making_alone c (repeated c s)
acted c PrintOrder s = print_order c s
acted c Unknown s = refuse not_a_message s

-- A program that has stopped answers nothing.
unfoldable pub handle : Setting → Line → State → State
handle c line s = cond s.stopped (with_outs [] s) (acted c line (with_outs [] s))

-- at its start a program makes its block of round 0
unfoldable pub started : Setting → State
started c = settled c (making c (blank c))

-- the state after some lines, the latest first
unfoldable pub run : Setting → List Line → State
run c [] = started c
run c (line ∷ lines) = handle c line (run c lines)

-- all that was ever answered, the first one first
unfoldable pub answers : Setting → List Line → List Out
answers c [] = (started c).outs
answers c (line ∷ lines) = answers c lines ++ (run c (line ∷ lines)).outs
