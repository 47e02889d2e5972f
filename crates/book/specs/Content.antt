-- What a book's tables hold: a list of blocks, each with its place in the list as its name. Assumes nothing.
use Rattle.std.specs.Prelude.{◌≡◌, ℕ, ◌+◌, ◌<◌, ◌≤◌, T, List, [], map, length, take, drop, slice_index_or}
use Rattle.model.specs.Names.{all_below}
use Rattle.model.specs.Blocks.{Block, Book, within_limits}
use Rattle.book.specs.declared.entry.Entry.{Entry}

-- a book holds at most so many blocks
abbrev pub max_blocks : ℕ
max_blocks = 4096

-- what a name that isn't in the book stands for
abbrev pub empty_block : Block
empty_block = record { author = 0; round = 0; parents = []; load = [] }

-- a book of this list of blocks: their names are their places
abbrev pub book_of : List Block → Book
book_of blocks name = slice_index_or blocks name empty_block

-- n elements of a table, from a place on
abbrev pub stretch : List ℕ → ℕ → ℕ → List ℕ
stretch table from n = take n (drop from table)

-- the block that stands where the entry says, in the tables of parents and of loads
abbrev pub block_at : List ℕ → List ℕ → Entry → Block
block_at parents loads e =
    record {
      author = e.author;
      round = e.round;
      parents = stretch parents e.parents_from e.parents;
      load = stretch loads e.load_from e.load;
    }

abbrev pub blocks_of : List Entry → List ℕ → List ℕ → List Block
blocks_of entries parents loads = map (block_at parents loads) entries

-- the entry's stretches end before these places of the two tables
abbrev pub Placed : ℕ → ℕ → Entry → Type 0
Placed parents_end loads_end e = (e.parents_from + e.parents ≤ parents_end) × (e.load_from + e.load ≤ loads_end)

abbrev pub empty_entry : Entry
empty_entry = record { author = 0; round = 0; parents_from = 0; parents = 0; load_from = 0; load = 0 }

abbrev pub AllPlaced : ℕ → ℕ → List Entry → Type 0
AllPlaced parents_end loads_end entries = (i : ℕ) → i < length entries → Placed parents_end loads_end (slice_index_or entries i empty_entry)

-- no block has two names
abbrev pub OneName : List Block → Type 0
OneName blocks = (i j : ℕ) → (i < j) × (j < length blocks) × (book_of blocks i ≡ book_of blocks j) → ⊥

-- no block has more parents or bytes than it may
abbrev pub Limited : List Block → Type 0
Limited blocks = (i : ℕ) → i < length blocks → T (within_limits (book_of blocks i))

-- a block's parents are named before it
abbrev pub ParentsBefore : List Block → Type 0
ParentsBefore blocks = (i : ℕ) → i < length blocks → T (all_below i (book_of blocks i).parents)
