use Rattle.std.proofs.Common.{ap, ◌∙◌}
use Rattle.sha3.specs.Keccak.{rho, pi, chi, iota, keccak_round}
use Rattle.sha3.proofs.keccak.round.Goals as goal

-- The five steps in a row, each by its own contract.
pub returns : goal.returns
unfolding keccak_round
returns c =
    c.iota.ensures
    ∙ ap (λ s. iota s c.args.constant) (c.chi.ensures ∙ ap chi (c.pi.ensures ∙ ap pi (c.rho.ensures ∙ ap rho c.theta.ensures)))
