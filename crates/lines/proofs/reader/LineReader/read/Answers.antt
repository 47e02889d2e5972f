use Rattle.std.proofs.lemmas.Result.{MatchResult-from_err}
use Rattle.lines.specs.Chunks.{to_come, GivesOne}
use Rattle.lines.proofs.Taking.{Reads, reads_none, reads_more, part_lost, line_read, end_read}
use Rattle.lines.proofs.reader.LineReader.read.Given.{Over}
use Rattle.lines.proofs.reader.LineReader.read.Goals as goal
use Rattle.lines.proofs.reader.LineReader.read.Goals.{Joined-next_waiting, in-Some, in-None+in_ok-next-in-None}

-- whether the next byte waited or came with a chunk, it is the next one, and the buffer is as it was
given : (g : Over) (c : Joined-next_waiting g) →
    GivesOne (to_come g.R.Read.remaining c.loop.self.input) (to_come g.R.Read.remaining c.match-next_waiting.self.input) c.match-next_waiting.next
    × Reads (to_come g.R.Read.remaining c.args.self.now.input) (to_come g.R.Read.remaining c.loop.self.input) c.match-next_waiting.self.line
given g c = elim c.match-next_waiting.branch [
  | in-Some w ↦ rw (w.self-is, w.next-is) (w.in-Some.ensures, c.loop.invariant)
  | in-None+in_ok-next-in-None w ↦ rw (w.self-is, w.next-is) (rw w.in-None.ensures.0 at w.in_ok-next-in-None.ensures, c.loop.invariant)
]

pub loop-init : goal.loop-init
loop-init g c = reads_none (to_come g.R.Read.remaining c.args.self.now.input) c.clear.new.self c.clear.ensures

pub returns-in_default : goal.returns-in_default
returns-in_default g c =
    let next = given g (goal.at.returns-in_default g c).Joined-next_waiting in
    let none = rw c.in_default.is at next.0 in
    end_read _ _ _ c.match-next_waiting.self.line next.1 none.0 none.1 c.is_empty.result (c.is_empty.ensures next.1.line next.1.keeps)

pub returns-then-byte-eq-LINE_END : goal.returns-then-byte-eq-LINE_END
returns-then-byte-eq-LINE_END g c =
    let next = given g (goal.at.returns-then-byte-eq-LINE_END g c).Joined-next_waiting in
    let one = rw c.in-Some-next.is at next.0 in
    (next.1.line, next.1.keeps, line_read _ _ _ c.match-next_waiting.self.line c.in-Some-next.byte next.1 one c.if-byte-eq-LINE_END.true)

pub returns-in_err-push : goal.returns-in_err-push
returns-in_err-push g c =
    let next = given g (goal.at.returns-in_err-push g c).Joined-next_waiting in
    let one = rw c.in-Some-next.is at next.0 in
    MatchResult-from_err c.from_residual-in_err-push.result _ _ c.from_residual-in_err-push.ensures.0
    (λ _. part_lost _ _ _ c.match-next_waiting.self.line c.in-Some-next.byte next.1 one c.if-byte-eq-LINE_END.false)

pub loop-preserved : goal.loop-preserved
loop-preserved g c =
    let next = given g (goal.at.loop-preserved g c).Joined-next_waiting in
    let one = rw c.in-Some-next.is at next.0 in
    reads_more _ _ _ c.match-next_waiting.self.line c.push.new.self c.in-Some-next.byte next.1 one c.in_ok-push.ensures c.if-byte-eq-LINE_END.false
