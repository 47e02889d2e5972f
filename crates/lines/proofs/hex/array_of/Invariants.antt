use Rattle.std.proofs.Common.{◌≡◌, length, take}
use Rattle.lines.proofs.Decoding.{Decoding}
use Rattle.lines.proofs.hex.array_of.Given as goal

abbrev pub invariant-loop-i : goal.invariant-loop-i
invariant-loop-i g l = record { decoding : Decoding l.pairs l.i (take l.i l.bytes); len : length l.bytes ≡ g.row.N }
