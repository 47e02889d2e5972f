use Rattle.model.proofs.Runs.{not_empty}
use Rattle.model.proofs.promise_not_empty_stands.Goals as goal

pub returns : goal.returns
returns c = not_empty
