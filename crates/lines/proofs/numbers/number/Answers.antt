use Rattle.std.proofs.Common.{◌<◌, length, sym, arith}
use Rattle.std.proofs.lemmas.Bool.{eqb-false}
use Rattle.lines.proofs.Digits.{read_more, read_refused, read_all}
use Rattle.lines.proofs.numbers.number.Goals as goal

pub returns-in_err-value : goal.returns-in_err-value
returns-in_err-value c =
    rw c.from_residual.ensures
    (read_refused c.args.digits.now c.loop-byte.byte-index c.loop-byte.value c.loop-byte-test.true c.loop-byte.invariant c.in_err-value.ensures)

pub loop-byte-preserved : goal.loop-byte-preserved
loop-byte-preserved c =
    let told = c.in_ok-value.ensures in
    read_more c.args.digits.now c.loop-byte.byte-index c.loop-byte.value c.in_ok-value.value
    c.loop-byte-test.true c.loop-byte.invariant told.0 told.1

pub returns : goal.returns
returns c =
    let not_None = eqb-false (length c.args.digits.now) 0 (sym c.if-is_empty.ensures) in
    let some : 0 < length c.args.digits.now = omega arith in
    read_all c.args.digits.now c.loop-byte.byte-index c.loop-byte.value c.loop-byte-test.false some c.loop-byte.invariant
