use Rattle.std.proofs.Common.{◌≡◌, ◌+◌, ◌*◌, length, drop}
use Rattle.sha3.specs.Sponge.{add_bytes}
use Rattle.sha3.proofs.sponge.add_lanes.Given as goal

-- What is left to add gives the same state.
abbrev pub invariant-loop-i : goal.invariant-loop-i
invariant-loop-i l =
    (add_bytes l.initial.state (8 * l.lane) l.bytes ≡ add_bytes l.state (8 * (l.lane + l.i)) (drop (8 * l.i) l.bytes))
    × (length l.state ≡ 25)
