use Rattle.model.proofs.Safety.{webs_whole}
use Rattle.model.proofs.webs_whole_stands.Goals as goal

pub returns : goal.returns
returns c = webs_whole
