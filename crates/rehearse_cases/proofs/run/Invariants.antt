use Rattle.std.specs.Vec.Iter.{into_iter_len}
use Rattle.rehearse_cases.proofs.run.Given as goal

abbrev pub decreases-loop-first : goal.decreases-loop-first
decreases-loop-first l = into_iter_len l.args
