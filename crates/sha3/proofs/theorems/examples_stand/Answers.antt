use Rattle.std.proofs.Common.{refl}
use Rattle.sha3.specs.Keccak.{keccak_round, rounds}
use Rattle.sha3.specs.Sponge.{add_bytes, bytes_of, closing, padded, absorb, blocks, squeezed, sponge}
use Rattle.sha3.proofs.theorems.examples_stand.Goals as goal

pub returns : goal.returns
unfolding keccak_round rounds add_bytes bytes_of closing padded absorb blocks squeezed sponge
returns c = (refl, refl, refl)
