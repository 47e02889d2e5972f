-- The blocks that a view shows. Assumes nothing.
use Rattle.std.specs.Prelude.{List}
use Rattle.model.specs.Blocks.{Block}
use Rattle.book.specs.declared.view.View.{View}
use Rattle.book.specs.Content.{blocks_of}

abbrev pub held : View → List Block
held v = blocks_of v.entries.now v.parents.now v.loads.now
