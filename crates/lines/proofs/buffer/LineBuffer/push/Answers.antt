use Rattle.std.proofs.Common.{◌<◌, length, vec_items, ◌∙◌, arith}
use Rattle.lines.specs.Buffers.{longest}
use Rattle.lines.proofs.Keeping.{one_more}
use Rattle.lines.proofs.buffer.LineBuffer.push.Goals as goal

pub returns-in_ok-push : goal.returns-in_ok-push
returns-in_ok-push c line keeps =
    let self = c.args.self.now in
    let room : length (vec_items self.bytes) < longest = omega (arith, self.bytes.ok.0) in
    let is = one_more self.whole (vec_items self.bytes) line c.args.byte keeps.front keeps.held room in
    record { front = c.in_ok-push.ensures.items ∙ is.0; held = is.1 }
