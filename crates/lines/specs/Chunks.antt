-- What a reader by chunks has still to give. Assumes nothing.
use Rattle.std.specs.Prelude.{ℕ, List, [], ◌∷◌, take, drop, None, Some, MatchResult}
use Rattle.std.specs.declared.option.Option.{Option}
use Rattle.std.specs.declared.result.Result.{Result}
use Rattle.std.specs.Io.KnownBytes.{prepend_known, Keeps, Consumes, IsAtEnd}
use Rattle.lines.specs.declared.chunks.Chunks.{Chunks}

-- the bytes of the chunk that came from the input and weren't given yet
abbrev pub unread : {R : Type 0} → Chunks R → List ℕ
unread c = drop c.waiting.start (take c.waiting.end c.chunk)

-- all bytes that are still to come, where the input's are known
abbrev pub to_come : {R : Type 0} → (R → Option (List ℕ)) → Chunks R → Option (List ℕ)
to_come remaining c = prepend_known (unread c) (remaining c.input)

-- a byte that is given is the first of those that were to come; none is given at their end alone
abbrev pub GivesOne : Option (List ℕ) → Option (List ℕ) → Option ℕ → Type 0
GivesOne old new (Some byte) = Consumes old new (byte ∷ [])
GivesOne old new None = Keeps old new × IsAtEnd new

-- an error takes none away
abbrev pub GivesByte : {E : Type 0} → Option (List ℕ) → Option (List ℕ) → Result (Option ℕ) E → Type 0
GivesByte old new r = MatchResult r (λ o. GivesOne old new o) (λ _. Keeps old new)
