use Rattle.replica.proofs.Kept.{webs_stay_fit}
use Rattle.replica.proofs.webs_stay_fit.Goals as goal

pub returns : goal.returns
returns c = webs_stay_fit
