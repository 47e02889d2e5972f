-- What a call of a reader of lines takes of the bytes that are to come, where the input's are known. Assumes nothing.
use Rattle.std.specs.Prelude.{◌≡◌, ℕ, ◌<◌, ◌≤◌, ◌⊎◌, false, List, [], ◌∷◌, ◌++◌, length, Some, None, Ok, Err, Option, Result, MatchResult}
use Rattle.std.specs.Borrow.{Bor}
use Rattle.std.specs.Io.KnownBytes.{Consumes, IsAtEnd}
use Rattle.lines.specs.declared.buffer.TooLong.{TooLong}
use Rattle.lines.specs.Words.{has}
use Rattle.lines.specs.Buffers.{longest}

abbrev pub line_end : ℕ
line_end = 10

-- the bytes that were to come began with this line, which has no line feed in it, and with the line feed behind it; at their end, where a line has some
-- byte, that line feed may be wanting
pub record TakesLine (old new : Option (List ℕ)) (line : List ℕ) : Type 0 where
  pub clean : has line_end line ≡ false
  pub taken : Consumes old new (line ++ (line_end ∷ [])) ⊎ (Consumes old new line × IsAtEnd new × (0 < length line))

-- an error takes a part of a line at most
pub record TakesPart (old new : Option (List ℕ)) : Type 0 where
  pub part : List ℕ
  pub clean : has line_end part ≡ false
  pub taken : Consumes old new part

-- The next line is given, whole, unless it is longer than a line may be; none is given where no byte is to come.
abbrev pub GivesNext : Option (List ℕ) → Option (List ℕ) → Option (Result (Bor (List ℕ)) TooLong) → Type 0
GivesNext old new None = IsAtEnd old × IsAtEnd new
GivesNext old new (Some (Ok bytes)) = TakesLine old new bytes.now × (length bytes.now ≤ longest)
GivesNext old new (Some (Err e)) = (line : List ℕ) × TakesLine old new line × (longest < length line)

abbrev pub GivesLine : {E : Type 0} → Option (List ℕ) → Option (List ℕ) → Result (Option (Result (Bor (List ℕ)) TooLong)) E → Type 0
GivesLine old new r = MatchResult r (λ o. GivesNext old new o) (λ _. TakesPart old new)
