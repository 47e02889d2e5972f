use Rattle.std.proofs.Common.{refl}
use Rattle.std.proofs.lemmas.Result.{MatchResult-from_err}
use Rattle.lines.specs.Chunks.{to_come}
use Rattle.lines.proofs.Taking.{gives_line}
use Rattle.lines.proofs.reader.LineReader.next_line.Goals as goal

pub returns-in_err-read : goal.returns-in_err-read
returns-in_err-read g c =
    let part = MatchResult-from_err c.from_residual.result _ _ c.from_residual.ensures.0 (λ _. c.in_err-read.ensures) in
    ((refl, λ _. tt, part), record { given = (to_come g.R.Read.remaining c.read.new.self.input, part); after_borrow = tt })

pub returns : goal.returns
returns g c =
    let read = rw c.if-not-branch.false at c.in_ok-read.ensures in
    let line = gives_line _ _ _ read.0 read.2 (c.line-line.ensures read.0 read.1) in
    ((refl, λ _. tt, line), record { given = (to_come g.R.Read.remaining c.read.new.self.input, line); after_borrow = tt })
