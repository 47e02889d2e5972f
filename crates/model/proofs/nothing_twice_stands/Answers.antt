use Rattle.model.proofs.Safety.{nothing_twice}
use Rattle.model.proofs.nothing_twice_stands.Goals as goal

pub returns : goal.returns
returns c = nothing_twice
