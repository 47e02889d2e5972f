use Rattle.model.proofs.Cases.{all_cases}
use Rattle.model.proofs.cases_stand.Goals as goal

pub returns : goal.returns
returns c = all_cases
