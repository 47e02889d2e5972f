use lib.ListN.{length-replicate}
use Rattle.sha3.specs.Sponge.{sha3_rate, sha3_suffix}
use Rattle.sha3.specs.Holding.{Holds}
use Rattle.sha3.proofs.Hashers.{fed_done}
use Rattle.sha3.proofs.digest.Hasher.finish.Goals as goal

pub returns : goal.returns
unfolding Holds
returns g c =
    fed_done (sha3_rate g.row.LENGTH) sha3_suffix g.row.LENGTH c.args.self.sponge _ (simp length-replicate at c.finish.ensures)
