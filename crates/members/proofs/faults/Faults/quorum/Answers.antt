use Rattle.std.proofs.Common.{rules}
use Rattle.model.specs.Thresholds.{quorum}
use Rattle.members.proofs.faults.Faults.quorum.Goals as goal

pub returns : goal.returns
unfolding quorum
returns c = search rules
