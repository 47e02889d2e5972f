use Rattle.model.proofs.Thresholds.{thresholds_hold}
use Rattle.model.proofs.threshold_laws_stand.Goals as goal

pub returns : goal.returns
returns c = thresholds_hold
