use Rattle.std.proofs.Common.{rules}
use Rattle.lines.proofs.Cuts.{place_here, place_end}
use Rattle.lines.proofs.words.place_of.Goals as goal

pub returns-in-Some : goal.returns-in-Some
returns-in-Some c = place_here c.args.sought c.args.bytes.now c.in-Some.place (search rules) (search rules) (search rules)

pub returns-in-None : goal.returns-in-None
returns-in-None c = place_end c.args.sought c.args.bytes.now (search rules)
