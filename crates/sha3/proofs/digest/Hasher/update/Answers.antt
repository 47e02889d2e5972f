use Rattle.sha3.specs.Sponge.{sha3_rate, sha3_suffix}
use Rattle.sha3.specs.Holding.{Holds}
use Rattle.sha3.proofs.Hashers.{fed_more}
use Rattle.sha3.proofs.digest.Hasher.update.Goals as goal

pub returns : goal.returns
unfolding Holds
returns g c =
    fed_more (sha3_rate g.row.LENGTH) sha3_suffix c.args.self.now.sponge c.update.new.self c.args.bytes.now
    c.update.ensures.kept c.update.ensures.fed
