use Rattle.model.proofs.Safety.{nothing_forged}
use Rattle.model.proofs.nothing_forged_stands.Goals as goal

pub returns : goal.returns
returns c = nothing_forged
