use Rattle.std.proofs.Common.{◌+◌, List, ℕ, vec_items, sym, ap, ◌∙◌, subst, arith}
use Rattle.std.proofs.lemmas.Grind.{common_steps}
use Rattle.lines.specs.Hex.{decoded}
use Rattle.lines.proofs.Decoding.{Decoding, decoding_more, decoding_stops, decoding_all}
use Rattle.lines.proofs.hex.decode.Goals as goal

pub returns-in_default-byte : goal.returns-in_default-byte
returns-in_default-byte c =
    sym (ap decoded (grind (arith, common_steps)) ∙ c.in-Some.ensures.0
    ∙ decoding_stops c.in-Some.pairs.now c.loop-high.high-index (vec_items c.loop-high.bytes) c.loop-high-test.true c.loop-high.invariant
    (sym c.in_default-byte.ensures))

pub loop-high-preserved : goal.loop-high-preserved
loop-high-preserved c =
    subst (λ (bytes : List ℕ). Decoding c.in-Some.pairs.now (c.loop-high.high-index + 1) bytes) (sym c.in_ok-push.ensures.items)
    (decoding_more c.in-Some.pairs.now c.loop-high.high-index (vec_items c.loop-high.bytes) c.loop-high-test.true c.loop-high.invariant
    c.in-Some-byte.byte (sym c.in-Some-byte.ensures))

pub returns : goal.returns
returns c =
    sym (ap decoded (grind (arith, common_steps)) ∙ c.in-Some.ensures.0
    ∙ decoding_all c.in-Some.pairs.now c.loop-high.high-index (vec_items c.loop-high.bytes) c.loop-high-test.false c.loop-high.invariant)
