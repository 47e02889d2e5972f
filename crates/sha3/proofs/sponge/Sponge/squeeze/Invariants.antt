use Rattle.std.proofs.Common.{◌≡◌, ◌<◌, ◌≤◌, length}
use Rattle.sha3.specs.Keccak.{keccak}
use Rattle.sha3.specs.Sponge.{squeezed}
use Rattle.sha3.proofs.Squeezing.{Left}
use Rattle.sha3.proofs.sponge.Sponge.squeeze.Given as goal

-- The bytes that are left come from byte `at` on of a permuted state.
abbrev pub invariant-loop-byte : goal.invariant-loop-byte
invariant-loop-byte l = record {
  same_rate : l.self.rate ≡ l.fn.self.rate;
  within : l.at ≤ l.fn.self.rate;
  lanes : l.at < l.fn.self.rate → length l.self.state ≡ 25;
  left : Left l.fn.self.rate (squeezed l.fn.self.rate (length l.fn.out) (keccak l.fn.self.state)) l.byte-index l.at l.out l.self.state;
}
