use Rattle.model.proofs.Safety.{causes_first}
use Rattle.model.proofs.causes_first_stands.Goals as goal

pub returns : goal.returns
returns c = causes_first
