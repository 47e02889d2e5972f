-- What a word of a glossary says. Assumes nothing.
use Rattle.std.specs.Prelude.{vec_items}
use Rattle.rehearsal.specs.declared.glossary.Word.{Word}
use Rattle.rehearsal.specs.Words.{Naming}

abbrev pub naming_of : Word → Naming
naming_of w = record { text = vec_items w.text; name = w.name }
