-- The blocks that a book holds, and how much memory was lent to it. Assumes nothing.
use Rattle.std.specs.Prelude.{List}
use Rattle.model.specs.Blocks.{Block}
use Rattle.book.specs.declared.book.Book.{Book}
use Rattle.book.specs.Memory.{Lent}

abbrev pub blocks : Book → List Block
blocks b = b.tables.content

abbrev pub memory : Book → Lent
memory b = b.tables.lent
