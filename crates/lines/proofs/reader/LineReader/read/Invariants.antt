use Rattle.lines.specs.Chunks.{to_come}
use Rattle.lines.proofs.Taking.{Reads}
use Rattle.lines.proofs.reader.LineReader.read.Given as goal

abbrev pub invariant-loop : goal.invariant-loop
invariant-loop g l = Reads (to_come g.R.Read.remaining l.fn.self.input) (to_come g.R.Read.remaining l.self.input) l.self.line
