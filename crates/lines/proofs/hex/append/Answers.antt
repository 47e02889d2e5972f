use Rattle.std.proofs.Common.{vec_items}
use Rattle.lines.proofs.Decoding.{append_more, append_all}
use Rattle.lines.proofs.hex.append.Goals as goal

pub loop-byte-preserved : goal.loop-byte-preserved
loop-byte-preserved c =
    let next = append_more (vec_items c.args.digits.now) (vec_items c.loop-byte.digits) c.args.bytes.now c.loop-byte.byte-index c.loop-byte-test.true c.loop-byte.invariant in
    cc (c.in_ok-push.ensures.items, c.in_ok-push-2.ensures.items)

pub returns : goal.returns
returns c =
    append_all (vec_items c.args.digits.now) (vec_items c.loop-byte.digits) c.args.bytes.now c.loop-byte.byte-index
    c.loop-byte-test.false c.loop-byte.invariant
