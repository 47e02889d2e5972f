use Rattle.model.proofs.NoDeadEnd.{no_dead_end}
use Rattle.model.proofs.no_dead_end_stands.Goals as goal

pub returns : goal.returns
returns c = no_dead_end
