use Rattle.std.proofs.Common.{◌≡◌, vec_items}
use Rattle.lines.specs.Left.{left}
use Rattle.rehearsal.specs.Words.{names_in}
use Rattle.rehearsal.proofs.Wording.{behind}
use Rattle.rehearsal.proofs.glossary.Glossary.names_of.Given as goal

abbrev pub invariant-loop-text : goal.invariant-loop-text
invariant-loop-text l =
    names_in (left l.fn.texts) l.self ≡ behind (vec_items l.names) (names_in (left l.text-iterator) l.self)
