-- Giving a signature, and making the next block. Assumes nothing.
use Rattle.std.specs.Prelude.{ℕ, ◌-◌, Bool, true, false, cond, not, ◌&&◌, ◌||◌, List, [], ◌∷◌, ◌++◌, length, take, drop, Some, None, Option, ◌==◌, nat_le, nat_lt, slice_index_or}
use Rattle.model.specs.Names.{is_in, different}
use Rattle.model.specs.Thresholds.{quorum}
use Rattle.model.specs.Blocks.{Block, Book, authors_at, max_parents}
use Rattle.model.specs.Member.{after_sign, after_make}
use Rattle.model.specs.Seat.{done, sign_answer, make_answer}
use Rattle.book.specs.Content.{max_blocks}
use Rattle.book.specs.Meeting.{block_of}
use Rattle.wire.specs.Messages.{WireBlock, SaysBlock, block_bytes, signed_bytes, message_bytes}
use Rattle.node_theory.specs.State.{Setting, State, ToAll, with_seat, with_made, with_loads, with_said, saying, refuse, stop}
use Rattle.node_theory.specs.Shelf.{book_in, entry_at, hash_at, wire_of, Look, Known, Fresh, Clash, look, put_in, keeping, signature_message}

-- ---- giving a signature
-- a signature, new or kept, goes to all, and is kept
abbrev pub send_signature : Setting → ℕ → List ℕ → State → State
send_signature c x signature s = saying (ToAll (signature_message s.shelf x c.me signature) ∷ []) (keeping x c.me signature s)

abbrev pub give_new : Setting → ℕ → Option (List ℕ) → State → State
give_new c x None s = s
give_new c x (Some signature) s = send_signature c x signature (with_said (signed_bytes c.me (hash_at s.shelf x) ∷ s.said) s)

abbrev pub give_kept : Setting → ℕ → Option (List ℕ) → State → State
give_kept c x None s = give_new c x (c.signs s.said (signed_bytes c.me (hash_at s.shelf x))) s
give_kept c x (Some signature) s = send_signature c x signature s

-- The program's signature of the block x goes to all: the one that is kept, or a new one. A program whose keys are used up is silent.
unfoldable pub give : Setting → ℕ → State → State
give c x s = give_kept c x (slice_index_or (entry_at s.shelf x).kept c.me None) s

-- the seat has answered that the block x is signed
abbrev pub signed_in : Setting → ℕ → State → State
signed_in c x s = give c x (with_seat (after_sign x s.seat) s)

-- ---- the parents of the next block
-- x is a parent of one of these blocks that are of rounds before r
unfoldable pub is_parent_before : Book → ℕ → List ℕ → ℕ → Bool
is_parent_before b r [] x = false
is_parent_before b r (y ∷ ys) x = (nat_lt (b y).round r && is_in x (b y).parents) || is_parent_before b r ys x

-- x comes first: a later round, or the same round and a lower author
abbrev pub first_of : Book → ℕ → ℕ → Bool
first_of b x y = nat_lt (b y).round (b x).round || ((b x).round == (b y).round && nat_lt (b x).author (b y).author)

unfoldable pub insert_tip : Book → ℕ → List ℕ → List ℕ
insert_tip b x [] = x ∷ []
insert_tip b x (y ∷ ys) = cond (first_of b x y) (x ∷ y ∷ ys) (y ∷ insert_tip b x ys)

-- Of these blocks of the web those of rounds before r on which no other block of the web, of a round before r, builds; by falling rounds and, in one
-- round, by rising authors. All blocks of round r - 1 are among them, and come first; of the earlier ones just those that aren't reached from others.
unfoldable pub tips_among : Book → ℕ → List ℕ → List ℕ → List ℕ
tips_among b r web [] = []
tips_among b r web (x ∷ xs) =
    cond (nat_lt (b x).round r && not (is_parent_before b r web x)) (insert_tip b x (tips_among b r web xs)) (tips_among b r web xs)

-- the parents of a block of round r, over this web
unfoldable pub parents_for : Book → ℕ → List ℕ → List ℕ
parents_for b r web = take max_parents (tips_among b r web web)

-- ---- making
-- a block for the next round would be valid: a quorum of authors has blocks of the round before in the web
unfoldable pub ready_for : ℕ → Book → ℕ → List ℕ → Bool
ready_for f b round web = round == 0 || nat_le (quorum f) (different (authors_at f b (round - 1) web))

abbrev pub ready : Setting → State → Bool
ready c s = ready_for c.f (book_in s) s.seat.round s.seat.web

abbrev pub has_room : State → Bool
has_room s = nat_lt (length s.shelf.blocks) max_blocks

-- the next block, with the oldest load that waits, or an empty one
unfoldable pub next_block : Setting → State → Block
next_block c s = block_of c.me s.seat.round (parents_for (book_in s) s.seat.round s.seat.web) (slice_index_or s.loads 0 [])

-- its own block x is signed; a program whose number was used elsewhere may find a rival signed, and then says so
unfoldable pub sign_own : Setting → ℕ → State → State
sign_own c x s =
    let a = sign_answer c.f (book_in s) true x s.seat in
    cond (a == done) (signed_in c x s) (refuse a s)

-- the seat makes the block x, which is in the book: it goes to all, and then its signature; its load is used up
unfoldable pub publish : Setting → WireBlock → ℕ → List ℕ → State → State
publish c w x signature s =
    cond (make_answer c.f (book_in s) c.me x s.seat == done)
    (sign_own c x
    (saying (ToAll (message_bytes (SaysBlock w signature)) ∷ [])
    (with_loads (drop 1 s.loads) (with_made (s.made ++ (x ∷ [])) (with_seat (after_make s.seat) s)))))
    s

-- the block that the book has as x is made, if the program's keys aren't used up
abbrev pub make_known : Setting → WireBlock → ℕ → State → Option (List ℕ) → State
make_known c w x s None = s
make_known c w x s (Some signature) = publish c w x signature (with_said (block_bytes w ∷ s.said) s)

-- the block that the book lacks is put in and made, if the program's keys aren't used up
abbrev pub make_fresh : Setting → Block → WireBlock → State → Option (List ℕ) → State
make_fresh c k w s None = s
make_fresh c k w s (Some signature) =
    publish c w (length s.shelf.blocks) signature (with_said (block_bytes w ∷ s.said) (put_in k (c.digest (block_bytes w)) signature s))

-- (changed by the lead at 02:58: the book is asked before anything is signed)
abbrev pub make_looked : Setting → Block → WireBlock → State → Look → State
make_looked c k w s (Known x) = make_known c w x s (c.signs s.said (block_bytes w))
make_looked c k w s Fresh = make_fresh c k w s (c.signs s.said (block_bytes w))
make_looked c k w s Clash = stop s

abbrev pub make_wire : Setting → Block → WireBlock → State → State
make_wire c k w s = make_looked c k w s (look k (c.digest (block_bytes w)) s.shelf)

-- The next block is made if it would be valid and the book has room. A program whose keys are used up makes none.
unfoldable pub making : Setting → State → State
making c s = cond (ready c s && has_room s) (make_wire c (next_block c s) (wire_of s.shelf (next_block c s)) s) s
