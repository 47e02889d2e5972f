use Rattle.model.proofs.Safety.{signs_one}
use Rattle.model.proofs.signs_one_stands.Goals as goal

pub returns : goal.returns
returns c = signs_one
