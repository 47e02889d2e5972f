use Rattle.std.proofs.Common.{rules}
use Rattle.model.specs.Thresholds.{needed_votes}
use Rattle.members.proofs.faults.Faults.votes.Goals as goal

pub returns : goal.returns
unfolding needed_votes
returns c = search rules
