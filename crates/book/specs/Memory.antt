-- What a book's tables hold, how much memory was lent to them, and when one more block finds room. Assumes nothing.
use Rattle.std.specs.Prelude.{◌≡◌, ℕ, ◌+◌, ◌*◌, ◌<◌, ◌≤◌, List, [], ◌∷◌, length}
use Rattle.model.specs.Blocks.{Block, max_parents, max_load}
use Rattle.book.specs.declared.entry.Entry.{Entry}
use Rattle.book.specs.Content.{max_blocks, blocks_of, AllPlaced}

-- how many blocks, parents and bytes the lent memory has room for
pub record Lent : Type 0 where
  pub blocks : ℕ
  pub parents : ℕ
  pub bytes : ℕ

abbrev pub lent_by : List Entry → List ℕ → List ℕ → Lent
lent_by entries parents loads = record { blocks = length entries; parents = length parents; bytes = length loads }

-- the blocks in the tables, and the memory that is lent to them
pub record Kept : Type 0 where
  pub content : List Block
  pub lent : Lent

-- how many parents the blocks have together, and how many bytes they carry
unfoldable pub parents_of_all : List Block → ℕ
parents_of_all [] = 0
parents_of_all (k ∷ ks) = length k.parents + parents_of_all ks

unfoldable pub bytes_of_all : List Block → ℕ
bytes_of_all [] = 0
bytes_of_all (k ∷ ks) = length k.load + bytes_of_all ks

-- there is room for one more block, with so many parents and so many bytes
abbrev pub HasRoom : Lent → List Block → ℕ → ℕ → Type 0
HasRoom l blocks parents bytes =
    (length blocks < max_blocks) × (length blocks < l.blocks) × (parents_of_all blocks + parents ≤ l.parents) × (bytes_of_all blocks + bytes ≤ l.bytes)

-- the blocks are no more than a book may have, and they fit into the memory that is lent
pub record Within (l : Lent) (blocks : List Block) : Type 0 where
  pub few : length blocks ≤ max_blocks
  pub blocks_fit : length blocks ≤ l.blocks
  pub parents_fit : parents_of_all blocks ≤ l.parents
  pub bytes_fit : bytes_of_all blocks ≤ l.bytes
  pub few_parents : parents_of_all blocks ≤ max_parents * length blocks
  pub short_loads : bytes_of_all blocks ≤ max_load * length blocks

-- What always holds of the three tables: they have no more than a book may have, the tables of parents and of loads have what the blocks need,
-- which is no more than that many blocks may need, and each entry's stretches lie in them.
pub record Tabled (entries : List Entry) (parents loads : List ℕ) : Type 0 where
  pub few : length entries ≤ max_blocks
  pub parents_filled : length parents ≡ parents_of_all (blocks_of entries parents loads)
  pub few_parents : length parents ≤ max_parents * length entries
  pub loads_filled : length loads ≡ bytes_of_all (blocks_of entries parents loads)
  pub short_loads : length loads ≤ max_load * length entries
  pub placed : AllPlaced (length parents) (length loads) entries
