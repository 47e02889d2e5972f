use Rattle.std.proofs.Common.{◌≡◌}
use Rattle.sha3.specs.Keccak.{rounds}
use Rattle.sha3.proofs.keccak.permute.Given as goal

abbrev pub invariant-loop-constant : goal.invariant-loop-constant
invariant-loop-constant l = l.a ≡ rounds l.constant-index l.initial.a
