use Rattle.std.proofs.Common.{◌≡◌, ◌+◌, drop}
use Rattle.sha3.specs.Sponge.{add_bytes}
use Rattle.sha3.proofs.sponge.add_singly.Given as goal

-- What is left to add gives the same state.
abbrev pub invariant-loop-i : goal.invariant-loop-i
invariant-loop-i l = add_bytes l.initial.state l.at l.bytes ≡ add_bytes l.state (l.at + l.i) (drop l.i l.bytes)
