use Rattle.lines.proofs.Cuts.{words_join}
use Rattle.lines.proofs.words.words_join.Goals as goal

pub returns : goal.returns
returns c = words_join
