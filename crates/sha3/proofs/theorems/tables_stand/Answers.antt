use Rattle.std.proofs.Common.{refl}
use Rattle.sha3.specs.Tables.{walk, walked_offsets, register, rc, defined_constant, defined_constants}
use Rattle.sha3.proofs.theorems.tables_stand.Goals as goal

pub returns : goal.returns
unfolding walk walked_offsets register rc defined_constant defined_constants
returns c = (refl, refl)
