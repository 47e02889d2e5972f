use Rattle.model.proofs.Safety.{one_certified}
use Rattle.model.proofs.one_certified_stands.Goals as goal

pub returns : goal.returns
returns c = one_certified
