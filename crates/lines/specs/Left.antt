-- The words that are left to read of a line. Assumes nothing.
use Rattle.std.specs.Prelude.{ℕ, List, [], Some, None, Option}
use Rattle.std.specs.Borrow.{Bor}
use Rattle.lines.specs.declared.words.Words.{Words}
use Rattle.lines.specs.Words.{words_of}

abbrev pub left_of : Option (Bor (List ℕ)) → List (List ℕ)
left_of None = []
left_of (Some bytes) = words_of bytes.now

abbrev pub left : Words → List (List ℕ)
left words = left_of words.rest
