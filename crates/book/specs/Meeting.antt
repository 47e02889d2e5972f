-- What it means that a block is in a book, and what meeting a block does to the book. Assumes nothing.
use Rattle.std.specs.Prelude.{◌≡◌, ℕ, ◌<◌, ◌≤◌, T, ◌⊎◌, List, [], ◌∷◌, ◌++◌, length, Ok, Err, Result, Some, None, Option, ◌≢◌}
use Rattle.model.specs.Names.{all_below}
use Rattle.model.specs.Blocks.{Block, max_parents, max_load}
use Rattle.book.specs.declared.block.Block.{Block as Shown}
use Rattle.book.specs.declared.refusal.Refusal.{Refusal}
use Rattle.book.specs.declared.refusal.Refusal.TheVariants.{TooManyParents, LoadTooLong, NoSuchParent, NoRoom}
use Rattle.book.specs.Content.{book_of}
use Rattle.book.specs.Memory.{Lent, HasRoom}

-- the block of these parts
abbrev pub block_of : ℕ → ℕ → List ℕ → List ℕ → Block
block_of author round parents load = record { author = author; round = round; parents = parents; load = load }

-- the block that is met or read, with the lists that its slices show
abbrev pub shown : Shown → Block
shown b = block_of b.author b.round b.parents.now b.load.now

-- the block has no name below n
abbrev pub NoneBelow : ℕ → List Block → Block → Type 0
NoneBelow n blocks k = (i : ℕ) → i < n → book_of blocks i ≢ k

-- the block isn't among the blocks
abbrev pub Absent : List Block → Block → Type 0
Absent blocks k = NoneBelow (length blocks) blocks k

-- n is the block's name: the first place where it stands
pub record Named (blocks : List Block) (k : Block) (n : ℕ) : Type 0 where
  pub there : n < length blocks
  pub stands : book_of blocks n ≡ k
  pub first : NoneBelow n blocks k

-- what looking for the block finds: its name, or that it has none
abbrev pub Found : List Block → Block → Option ℕ → Type 0
Found blocks k (Some n) = Named blocks k n
Found blocks k None = Absent blocks k

-- the block isn't too large, and its parents are in the book
pub record Acceptable (blocks : List Block) (k : Block) : Type 0 where
  pub few_parents : length k.parents ≤ max_parents
  pub short_load : length k.load ≤ max_load
  pub parents_there : T (all_below (length blocks) k.parents)

-- the block would be added to the book: it isn't too large, its parents are there, it isn't in the book yet, and it finds room
pub record Addable (l : Lent) (blocks : List Block) (k : Block) : Type 0 where
  pub acceptable : Acceptable blocks k
  pub absent : Absent blocks k
  pub room : HasRoom l blocks (length k.parents) (length k.load)

-- the book has the block already: it stays as it is
pub record Known (before : List Block) (k : Block) (n : ℕ) (after : List Block) : Type 0 where
  pub named : Named before k n
  pub same : after ≡ before

-- the block is new: it comes behind the others, and its name is the next number
pub record New (l : Lent) (before : List Block) (k : Block) (n : ℕ) (after : List Block) : Type 0 where
  pub absent : Absent before k
  pub room : HasRoom l before (length k.parents) (length k.load)
  pub next : n ≡ length before
  pub grown : after ≡ before ++ (k ∷ [])

-- The block was met under the name n. However that came, the name stands for the block, and what a name stood for before, it stands for after.
pub record Met (l : Lent) (before : List Block) (k : Block) (n : ℕ) (after : List Block) : Type 0 where
  pub acceptable : Acceptable before k
  pub how : Known before k n after ⊎ New l before k n after
  pub named : Named after k n
  pub kept : (i : ℕ) → i < length before → book_of after i ≡ book_of before i

-- Why a block is refused: the first of these that holds.
abbrev pub Because : Refusal → Lent → List Block → Block → Type 0
Because TooManyParents l blocks k = max_parents < length k.parents
Because LoadTooLong l blocks k = (length k.parents ≤ max_parents) × (max_load < length k.load)
Because NoSuchParent l blocks k =
    (length k.parents ≤ max_parents) × (length k.load ≤ max_load) × (T (all_below (length blocks) k.parents) → ⊥)
Because NoRoom l blocks k = Acceptable blocks k × Absent blocks k × (HasRoom l blocks (length k.parents) (length k.load) → ⊥)

-- The block was refused, and the book stays as it is.
pub record Refused (why : Refusal) (l : Lent) (before : List Block) (k : Block) (after : List Block) : Type 0 where
  pub because : Because why l before k
  pub same : after ≡ before

-- what meeting a block answers, and what the book holds after
abbrev pub Meets : Lent → List Block → Block → Result ℕ Refusal → List Block → Type 0
Meets l before k (Ok n) after = Met l before k n after
Meets l before k (Err why) after = Refused why l before k after
