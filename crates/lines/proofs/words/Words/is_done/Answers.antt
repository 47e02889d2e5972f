use Rattle.std.proofs.Common.{rules}
use Rattle.lines.proofs.Cuts.{done_if_none}
use Rattle.lines.proofs.words.Words.is_done.Goals as goal

pub returns : goal.returns
returns c = done_if_none c.args.self.now.rest _ (search rules)
