use Rattle.std.proofs.Common.{◌≡◌, rules, tests, vec_items, ◌∙◌, ap}
use Rattle.std.specs.Option.{option_map}
use Rattle.std.specs.Str.{bytes_eq}
use Rattle.std.proofs.lemmas.Iterator.{YieldsList-from_slice}
use Rattle.std.proofs.lemmas.Iterator.Search.{find_from_yields_List}
use Rattle.rehearsal.specs.declared.glossary.Word.{Word}
use Rattle.rehearsal.specs.Words.{name_in}
use Rattle.rehearsal.proofs.Wording.{find_name}
use Rattle.rehearsal.proofs.glossary.Glossary.name_of.Goals as goal

pub returns : goal.returns
returns c =
    let words = vec_items c.self.inside.words in
    let found =
    find_from_yields_List {all = words} (λ (w : Word). bytes_eq c.args.text.now (vec_items w.text)) _ _ c.find.result c.find.ensures.ran
    (YieldsList-from_slice _ cc) (λ x b q k. search (rules, tests)) in
    let name : c.map.result ≡ option_map (λ (w : Word). w.name) (option_map (λ b. b.now) c.find.result) = search rules in
    name ∙ ap (option_map (λ (w : Word). w.name)) found ∙ find_name c.args.text.now words ∙ ap (name_in c.args.text.now) c.self.view_is
