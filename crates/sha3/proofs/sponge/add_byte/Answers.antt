use Rattle.std.proofs.Common.{◌*◌, ◌/◌, ◌%◌, ◌^◌, get_or, set, ap, ◌∙◌, mod-eq_of_lt}
use lib.Bits.{bit_xor}
use Rattle.sha3.proofs.Bytes.{byte_fits}
use Rattle.sha3.proofs.sponge.add_byte.Goals as goal

-- The shift loses no bit.
pub returns : goal.returns
returns c =
    let s = c.args.state.now in
    let i = c.args.at in
    ap (λ b. set s (i / 8) (bit_xor (get_or s (i / 8) 0) ((b * 2 ^ (8 * (i % 8))) % 2 ^ 64))) c.from.ensures
    ∙ ap (λ v. set s (i / 8) (bit_xor (get_or s (i / 8) 0) v)) (mod-eq_of_lt (byte_fits c.args.byte i c.ranges.byte.fits))
