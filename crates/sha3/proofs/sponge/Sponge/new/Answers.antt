use Rattle.std.proofs.Common.{refl}
use Rattle.sha3.specs.Feeding.{feeding, Holds}
use Rattle.sha3.proofs.sponge.Sponge.new.Goals as goal

pub returns : goal.returns
unfolding feeding Holds
returns c = (refl, refl, refl)
