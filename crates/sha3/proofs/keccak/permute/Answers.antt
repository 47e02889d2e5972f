use Rattle.std.proofs.Common.{get_or, refl, ap, ◌∙◌, add-one}
use Rattle.sha3.specs.Keccak.{keccak_round, round_constants, rounds}
use Rattle.sha3.proofs.keccak.permute.Goals as goal

pub loop-constant-init : goal.loop-constant-init
unfolding rounds
loop-constant-init c = refl

pub loop-constant-preserved : goal.loop-constant-preserved
unfolding rounds
loop-constant-preserved c =
    rw add-one (c.round-next.ensures ∙ ap (λ s. keccak_round s (get_or round_constants c.loop-constant.constant-index 0)) c.loop-constant.invariant)
