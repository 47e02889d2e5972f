use Rattle.std.proofs.Common.{◌∙◌}
use Rattle.std.proofs.lemmas.List.{take_all}
use Rattle.lines.specs.Buffers.{longest}
use Rattle.lines.proofs.buffer.LineBuffer.line.Goals as goal

pub returns-in-Ok : goal.returns-in-Ok
returns-in-Ok c line keeps =
    let short = rw c.in-Ok.is at keeps.held in (c.as_slice.ensures.value ∙ (keeps.front ∙ take_all longest line short), short)
