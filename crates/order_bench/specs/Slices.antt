-- A book in two slices: a small entry for each block, and all parents one after another. Assumes nothing.
use Rattle.std.specs.Prelude.{List, [], ℕ, get_or, drop}
use Rattle.model.specs.Blocks.{Block, Book}
use Rattle.model.specs.Seat.{padded}
use Rattle.order_bench.specs.declared.Entry.{Entry}

-- what a name that isn't there reads as
abbrev pub no_entry : Entry
no_entry = record { author = 0; round = 0; start = 0; count = 0 }

-- the block of an entry: so many parents from the start on
abbrev pub block_of : List ℕ → Entry → Block
block_of all e = record { author = e.author; round = e.round; parents = padded e.count (drop e.start all); load = [] }

abbrev pub sliced : List Entry → List ℕ → Book
sliced entries all x = block_of all (get_or entries x no_entry)
