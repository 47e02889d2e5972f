use Rattle.std.proofs.Common.{◌≡◌, ◌+◌, ◌*◌, ◌/◌, ◌<◌, ◌≤◌, [], length, get_or, take, drop, set, sym, ap, ◌∙◌, arith, length-set}
use lib.Bits.{bit_xor}
use Rattle.sha3.specs.Sponge.{add_bytes}
use Rattle.sha3.proofs.Bytes.{lanes_more, none_left, word_at, chunk_word, chunk_at}
use Rattle.sha3.proofs.sponge.add_lanes.Goals as goal

pub loop-i-preserved : goal.loop-i-preserved
loop-i-preserved c =
    let i = c.loop-i.i in
    let q = c.args.lane in
    let s = c.loop-i.state in
    let bytes = c.args.bytes.now in
    let long : length s ≡ 25 = c.loop-i.invariant.1 in
    let within : i < length bytes / 8 = omega (arith, c.as_chunks.ensures.front_len, c.loop-i-test.true) in
    let room : 8 * i + 8 ≤ length bytes = omega arith in
    let inside : q + i < length s = omega (arith, c.requires.within) in
    let chunk : get_or c.as_chunks.result.0.now i [] ≡ take 8 (drop (8 * i) bytes)
    = ap (λ ws. get_or ws i []) c.as_chunks.ensures.front ∙ chunk_at (length bytes / 8) i bytes [] within in
    let word : c.from_le_bytes.result ≡ word_at bytes (8 * i)
    = c.from_le_bytes.ensures ∙ ap (λ w. word_at w 0) chunk ∙ chunk_word bytes (8 * i) room in
    let turn = lanes_more s q i bytes room inside (λ k. (c.type_inv.bytes k).fits) in (
      c.loop-i.invariant.0 ∙ turn
          ∙ ap (λ w. add_bytes (set s (q + i) (bit_xor (get_or s (q + i) 0) w)) (8 * (q + (i + 1))) (drop (8 * (i + 1)) bytes)) (sym word),
      length-set s (q + i) _ ∙ long,
    )

pub returns : goal.returns
returns c =
    let all : length c.args.bytes.now ≤ 8 * c.loop-i.i
    = omega (arith, c.loop-i-test.false, c.as_chunks.ensures.front_len, c.requires.whole) in
    sym (c.loop-i.invariant.0 ∙ none_left c.loop-i.state (8 * (c.args.lane + c.loop-i.i)) (8 * c.loop-i.i) c.args.bytes.now all)
