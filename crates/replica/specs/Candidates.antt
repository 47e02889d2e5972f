-- Which block a seat is asked about. Assumes nothing.
use Rattle.model.specs.Blocks.{Book, Block}
use Rattle.replica.specs.declared.checks.Candidate.{Candidate}

-- the book, by what a book of that kind tells
abbrev pub book_of : {B : Type 0} → (B → Book) → Candidate B → Book
book_of what candidate = what candidate.book.now

-- the block of the candidate's name
abbrev pub block_of : {B : Type 0} → (B → Book) → Candidate B → Block
block_of what candidate = book_of what candidate candidate.name
