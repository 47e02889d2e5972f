use Rattle.std.proofs.Common.{◌+◌, drop, sym, ap, ◌∙◌}
use Rattle.sha3.specs.Sponge.{add_bytes}
use Rattle.sha3.proofs.Bytes.{singly_more, none_left}
use Rattle.sha3.proofs.sponge.add_singly.Goals as goal

pub loop-i-preserved : goal.loop-i-preserved
loop-i-preserved c =
    let i = c.loop-i.i in
    c.loop-i.invariant
    ∙ singly_more c.loop-i.state c.args.at i c.args.bytes.now c.loop-i-test.true
    ∙ ap (λ s. add_bytes s (c.args.at + (i + 1)) (drop (i + 1) c.args.bytes.now)) (sym c.add_byte.ensures)

pub returns : goal.returns
returns c =
    sym (c.loop-i.invariant ∙ none_left c.loop-i.state (c.args.at + c.loop-i.i) c.loop-i.i c.args.bytes.now c.loop-i-test.false)
