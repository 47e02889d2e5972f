-- What is kept of the line that is being read. Assumes nothing.
use Rattle.std.specs.Prelude.{◌≡◌, ℕ, ◌<◌, ◌≤◌, List, length, take, vec_items, MatchResult}
use Rattle.lines.specs.declared.buffer.LineBuffer.{LineBuffer}

-- a line is held up to this length
abbrev pub longest : ℕ
longest = 8192

-- of the line's bytes so far the first are kept, and whether they are all of them
pub record Keeps (buffer : LineBuffer) (line : List ℕ) : Type 0 where
  pub front : vec_items buffer.bytes ≡ take longest line
  pub held : MatchResult buffer.whole (λ _. length line ≤ longest) (λ _. longest < length line)
