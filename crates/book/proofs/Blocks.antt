-- The blocks that tables hold, by their names: how many there are, and what stands at a name. Assumes nothing.
use Rattle.std.proofs.Common.{◌≡◌, ℕ, ◌<◌, List, length, get_or}
use Rattle.std.proofs.lemmas.List.{length-map, get_or-map}
use Rattle.book.specs.declared.entry.Entry.{Entry}
use Rattle.book.specs.Content.{empty_block, book_of, block_at, blocks_of, empty_entry}

pub how_many : (es : List Entry) (ps ls : List ℕ) → length (blocks_of es ps ls) ≡ length es
how_many es ps ls = length-map es (block_at ps ls)

pub block_there : (es : List Entry) (ps ls : List ℕ) (i : ℕ) → i < length es → book_of (blocks_of es ps ls) i ≡ block_at ps ls (get_or es i empty_entry)
block_there es ps ls i h = get_or-map (block_at ps ls) es i empty_entry empty_block h
