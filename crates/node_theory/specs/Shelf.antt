-- The book by hashes: finding blocks, putting them in, and the signatures that are kept of them. Assumes nothing.
use Rattle.std.specs.Prelude.{ℕ, zero, suc, Bool, true, false, cond, ◌&&◌, ◌||◌, List, [], ◌∷◌, ◌++◌, map, length, get_or, is_some, Some, None, Option, ◌==◌, nat_le, slice_index_or, slice_set}
use Rattle.std.specs.Str.{bytes_eq}
use Rattle.model.specs.Thresholds.{quorum}
use Rattle.model.specs.Blocks.{Block, Book}
use Rattle.book.specs.Content.{book_of}
use Rattle.wire.specs.Messages.{WireBlock, SaysBlock, SaysSigned, message_bytes}
use Rattle.node_theory.specs.State.{Setting, Entry, Shelf, Loose, State, with_shelf, with_loose}

-- what a name that isn't in the book has beside it
abbrev pub empty_entry : Entry
empty_entry = record { hash = []; signature = []; kept = []; taken = false }

abbrev pub entry_at : Shelf → ℕ → Entry
entry_at shelf x = slice_index_or shelf.entries x empty_entry

abbrev pub hash_at : Shelf → ℕ → List ℕ
hash_at shelf x = (entry_at shelf x).hash

-- which block a name stands for
abbrev pub book_in : State → Book
book_in s = book_of s.shelf.blocks

-- the hash stands in the list
unfoldable pub is_among : List ℕ → List (List ℕ) → Bool
is_among h [] = false
is_among h (x ∷ xs) = bytes_eq x h || is_among h xs

-- of the first n entries the latest with this hash: its name
unfoldable pub find_below : List ℕ → List Entry → ℕ → Option ℕ
find_below h entries zero = None
find_below h entries (suc n) = cond (bytes_eq (get_or entries n empty_entry).hash h) (Some n) (find_below h entries n)

-- the name of the block with this hash
unfoldable pub find : List ℕ → Shelf → Option ℕ
find h shelf = find_below h shelf.entries (length shelf.entries)

-- one more name in front, where all are there
abbrev pub and_name : Option ℕ → Option (List ℕ) → Option (List ℕ)
and_name None names = None
and_name (Some x) None = None
and_name (Some x) (Some xs) = Some (x ∷ xs)

-- the names of the blocks with these hashes, if all are in the book
unfoldable pub names_for : Shelf → List (List ℕ) → Option (List ℕ)
names_for shelf [] = Some []
names_for shelf (h ∷ hs) = and_name (find h shelf) (names_for shelf hs)

-- the hashes of the list that aren't in the book, each once, behind those that were listed before
unfoldable pub missing_after : Shelf → List (List ℕ) → List (List ℕ) → List (List ℕ)
missing_after shelf listed [] = listed
missing_after shelf listed (h ∷ hs) =
    cond (is_some (find h shelf) || is_among h listed) (missing_after shelf listed hs) (missing_after shelf (listed ++ (h ∷ [])) hs)

abbrev pub missing : Shelf → List (List ℕ) → List (List ℕ)
missing shelf hashes = missing_after shelf [] hashes

-- a block as it is written: its parents' names become hashes
unfoldable pub wire_of : Shelf → Block → WireBlock
wire_of shelf k = record { author = k.author; round = k.round; parents = map (hash_at shelf) k.parents; load = k.load }

-- the very same block (`same_bytes` compares any two lists of numbers)
abbrev pub same_block : Block → Block → Bool
same_block j k =
    (j.author == k.author) && j.round == k.round && bytes_eq j.parents k.parents && bytes_eq j.load k.load

unfoldable pub has_block : Block → List Block → Bool
has_block k [] = false
has_block k (j ∷ js) = same_block j k || has_block k js

-- What the book says of a block with a hash. Known x: it has the block, as x. Fresh: it has neither. Clash: it has the hash for another block, or the
-- block under another hash.
pub data Look : Type 0 where
  Known : ℕ → Look
  Fresh : Look
  Clash : Look

abbrev pub look_at : Shelf → Block → Option ℕ → Look
look_at shelf k (Some x) = cond (same_block (book_of shelf.blocks x) k) (Known x) Clash
look_at shelf k None = cond (has_block k shelf.blocks) Clash Fresh

unfoldable pub look : Block → List ℕ → Shelf → Look
look k h shelf = look_at shelf k (find h shelf)

-- ---- signatures that wait for their block
-- the first one for this hash in a member's queue
unfoldable pub loose_for : List ℕ → List Loose → Option (List ℕ)
loose_for h [] = None
loose_for h (l ∷ ls) = cond (bytes_eq l.hash h) (Some l.signature) (loose_for h ls)

-- the queue without those for this hash
unfoldable pub loose_without : List ℕ → List Loose → List Loose
loose_without h [] = []
loose_without h (l ∷ ls) = cond (bytes_eq l.hash h) (loose_without h ls) (l ∷ loose_without h ls)

-- ---- putting a block in: its name is the next number, and the signatures that waited for it move over
abbrev pub new_entry : List ℕ → List ℕ → List (List Loose) → Entry
new_entry h signature loose = record { hash = h; signature = signature; kept = map (loose_for h) loose; taken = false }

unfoldable pub put_in : Block → List ℕ → List ℕ → State → State
put_in k h signature s =
    with_loose (map (loose_without h) s.loose)
    (with_shelf (record {
      blocks = s.shelf.blocks ++ (k ∷ []);
      entries = s.shelf.entries ++ (new_entry h signature s.loose ∷ []);
    }) s)

-- ---- signatures kept
unfoldable pub count_kept : List (Option (List ℕ)) → ℕ
count_kept [] = 0
count_kept (None ∷ slots) = count_kept slots
count_kept (Some signature ∷ slots) = suc (count_kept slots)

-- as many different members as a quorum, of a committee for f bad members, have signed it
abbrev pub certified_on : ℕ → Shelf → ℕ → Bool
certified_on f shelf x = nat_le (quorum f) (count_kept (entry_at shelf x).kept)

abbrev pub certified_in : Setting → ℕ → State → Bool
certified_in c x s = certified_on c.f s.shelf x

-- all these blocks are in the web
unfoldable pub all_taken : Shelf → List ℕ → Bool
all_taken shelf [] = true
all_taken shelf (x ∷ xs) = (entry_at shelf x).taken && all_taken shelf xs

-- a member's signature, in its slot unless there is one
abbrev pub kept_with : ℕ → List ℕ → List (Option (List ℕ)) → List (Option (List ℕ))
kept_with who signature kept = cond (is_some (slice_index_or kept who None)) kept (slice_set kept who (Some signature))

abbrev pub entry_keeping : ℕ → List ℕ → Entry → Entry
entry_keeping who signature e = record { hash = e.hash; signature = e.signature; kept = kept_with who signature e.kept; taken = e.taken }

abbrev pub entry_taken : Entry → Entry
entry_taken e = record { hash = e.hash; signature = e.signature; kept = e.kept; taken = true }

abbrev pub with_entry : ℕ → Entry → Shelf → Shelf
with_entry x e shelf = record { blocks = shelf.blocks; entries = slice_set shelf.entries x e }

-- member who's signature of the block x is kept, once
unfoldable pub keeping : ℕ → ℕ → List ℕ → State → State
keeping x who signature s = with_shelf (with_entry x (entry_keeping who signature (entry_at s.shelf x)) s.shelf) s

-- ---- messages about a block of the book
unfoldable pub block_message : Shelf → ℕ → List ℕ
block_message shelf x = message_bytes (SaysBlock (wire_of shelf (book_of shelf.blocks x)) (entry_at shelf x).signature)

unfoldable pub signature_message : Shelf → ℕ → ℕ → List ℕ → List ℕ
signature_message shelf x who signature = message_bytes (SaysSigned who (hash_at shelf x) signature)
