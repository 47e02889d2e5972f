use Rattle.std.proofs.Common.{sym, ◌∙◌}
use Rattle.scheme.proofs.Bytes.{same_lengths}
use Rattle.scheme.proofs.rehearsal.seat.equal.Goals as goal

pub returns-then-given-ne-SIGNATURE_LENGTH : goal.returns-then-given-ne-SIGNATURE_LENGTH
returns-then-given-ne-SIGNATURE_LENGTH c =
    sym (same_lengths c.args.given.now c.args.right.now (λ e. c.if-given-ne-SIGNATURE_LENGTH.true (e ∙ c.told-right)))
