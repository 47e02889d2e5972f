use Rattle.std.proofs.Common.{◌≡◌, ℕ, ◌+◌, ◌*◌, ◌<◌, ◌≤◌, List, length, take, Some, None, eqb, sym, ap, ◌∙◌, subst, arith}
use Rattle.std.proofs.lemmas.Bool.{eq-eqb, cond-true}
use Rattle.std.proofs.lemmas.List.{take_more_set, take_all, length-set}
use Rattle.lines.specs.Hex.{decoded, array_of}
use Rattle.lines.proofs.Decoding.{Decoding, decoding_more, decoding_stops, decoding_all}
use Rattle.lines.proofs.hex.array_of.Goals as goal

-- exactly so many digits write what they write
just : (n : ℕ) (digits : List ℕ) → length digits ≡ 2 * n → array_of n digits ≡ decoded digits
just n digits e = cond-true (eqb (length digits) (2 * n)) (decoded digits) None (eq-eqb (length digits) (2 * n) e)

pub returns-in_err-bytes : goal.returns-in_err-bytes
returns-in_err-bytes g c =
    let told = c.in_ok-pairs.ensures in
    c.from_residual-in_err-bytes.ensures
    ∙ sym (just g.row.N c.args.digits.now (omega (arith, told.1)) ∙ told.0
    ∙ decoding_stops c.in_ok-pairs.pairs.now c.loop-i.i (take c.loop-i.i c.loop-i.bytes) c.loop-i-test.true c.loop-i.invariant.decoding
    (sym c.in_err-bytes.ensures))

pub loop-i-preserved : goal.loop-i-preserved
loop-i-preserved g c =
    let room : c.loop-i.i < length c.loop-i.bytes = omega arith in
    record {
      decoding =
          subst (λ (bytes : List ℕ). Decoding c.in_ok-pairs.pairs.now (c.loop-i.i + 1) bytes)
          (sym (take_more_set c.loop-i.bytes c.loop-i.i c.in_ok-bytes.field-0 room))
          (decoding_more c.in_ok-pairs.pairs.now c.loop-i.i (take c.loop-i.i c.loop-i.bytes) c.loop-i-test.true c.loop-i.invariant.decoding
          c.in_ok-bytes.field-0 (sym c.in_ok-bytes.ensures));
      len = length-set c.loop-i.bytes c.loop-i.i c.in_ok-bytes.field-0 ∙ c.loop-i.invariant.len;
    }

pub returns : goal.returns
returns g c =
    let told = c.in_ok-pairs.ensures in
    let full : length c.loop-i.bytes ≤ c.loop-i.i = omega arith in
    sym (just g.row.N c.args.digits.now (omega (arith, told.1)) ∙ told.0
    ∙ decoding_all c.in_ok-pairs.pairs.now c.loop-i.i (take c.loop-i.i c.loop-i.bytes) c.loop-i-test.false c.loop-i.invariant.decoding
    ∙ ap (λ l. Some l) (take_all c.loop-i.i c.loop-i.bytes full))
