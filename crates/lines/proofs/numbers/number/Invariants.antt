use Rattle.lines.proofs.Digits.{Read}
use Rattle.lines.proofs.numbers.number.Given as goal

abbrev pub invariant-loop-byte : goal.invariant-loop-byte
invariant-loop-byte l = Read l.digits l.byte-index l.value
