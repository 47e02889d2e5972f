use Rattle.std.proofs.Common.{length, sym, ap, ◌∙◌}
use Rattle.sha3.specs.Keccak.{keccak}
use Rattle.sha3.specs.Sponge.{squeezed, sponge}
use Rattle.sha3.proofs.Feeding.{finished}
use Rattle.sha3.proofs.sponge.Sponge.finish.Goals as goal

pub returns : goal.returns
unfolding sponge
returns c = λ fed h.
    let self = c.args.self in
    let n = length c.args.out.now in
    c.squeeze.ensures
    ∙ ap (λ r. squeezed r n (keccak c.close.new.self.state)) c.close.ensures.kept
    ∙ ap (λ s. squeezed self.rate n (keccak s)) c.close.ensures.closed
    ∙ sym (ap (squeezed self.rate n) (finished self.rate self.suffix self.state self.at fed h self.has_room self.block_fits self.suffix_fits))
