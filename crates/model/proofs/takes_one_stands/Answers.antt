use Rattle.model.proofs.Safety.{takes_one}
use Rattle.model.proofs.takes_one_stands.Goals as goal

pub returns : goal.returns
returns c = takes_one
