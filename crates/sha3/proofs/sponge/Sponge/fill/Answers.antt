use Rattle.std.proofs.Common.{◌+◌, ◌<◌, length, sym, ap, ◌∙◌, arith}
use Rattle.sha3.specs.Keccak.{keccak}
use Rattle.sha3.proofs.Feeding.{part, whole}
use Rattle.sha3.proofs.sponge.Sponge.fill.Goals as goal

-- The block is full.
pub returns-then-at-self-clause-fed : goal.returns-then-at-self-clause-fed
returns-then-at-self-clause-fed c =
    let self = c.args.self.now in
    ap (λ t. (t, 0)) (c.permute.ensures ∙ ap keccak c.add_bytes.ensures)
    ∙ sym (whole self.rate self.state self.at c.args.bytes.now self.has_room c.if-at-self.true)

-- The block stays open.
pub returns-else-at-self-clause-fed : goal.returns-else-at-self-clause-fed
returns-else-at-self-clause-fed c =
    let self = c.args.self.now in
    let bytes = c.args.bytes.now in
    let open-block : self.at + length bytes < self.rate = omega (arith, c.if-at-self.false, c.requires) in
    ap (λ t. (t, self.at + length bytes)) c.add_bytes.ensures ∙ sym (part self.rate self.state self.at bytes open-block)
