use Rattle.std.proofs.Common.{◌≡◌, ◌++◌, drop, vec_items}
use Rattle.lines.specs.Hex.{hex_of}
use Rattle.lines.proofs.hex.append.Given as goal

abbrev pub invariant-loop-byte : goal.invariant-loop-byte
invariant-loop-byte l = vec_items l.initial.digits ++ hex_of l.bytes ≡ vec_items l.digits ++ hex_of (drop l.byte-index l.bytes)
