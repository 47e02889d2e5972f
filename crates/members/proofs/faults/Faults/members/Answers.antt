use Rattle.std.proofs.Common.{rules}
use Rattle.model.specs.Thresholds.{members}
use Rattle.members.proofs.faults.Faults.members.Goals as goal

pub returns : goal.returns
unfolding members
returns c = search rules
