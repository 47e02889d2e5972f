use Rattle.std.proofs.Common.{◌*◌, ◌/◌, ◌%◌, ◌^◌, get_or, sym, ◌∙◌}
use lib.Bits.{and_mask}
use Rattle.sha3.proofs.Squeezing.{byte_at}
use Rattle.sha3.proofs.sponge.byte_of.Goals as goal

pub returns : goal.returns
returns c =
    let s = c.args.state.now in
    let i = c.args.at in
    and_mask (get_or s (i / 8) 0 / 2 ^ (8 * (i % 8))) 8 ∙ sym (byte_at s i)
