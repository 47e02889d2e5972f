use Rattle.std.proofs.Common.{vec_items}
use Rattle.lines.proofs.Decoding.{Decoding}
use Rattle.lines.proofs.hex.decode.Given as goal

abbrev pub invariant-loop-high : goal.invariant-loop-high
invariant-loop-high l = Decoding l.pairs l.high-index (vec_items l.bytes)
