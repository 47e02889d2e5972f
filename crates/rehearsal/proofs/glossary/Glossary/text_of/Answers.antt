use Rattle.std.proofs.Common.{◌≡◌, Option, rules, tests, vec_items, ◌∙◌, ap}
use Rattle.std.specs.Prelude.{◌==◌, unwrap_or, []}
use Rattle.std.specs.Option.{option_map}
use Rattle.std.proofs.lemmas.Iterator.{YieldsList-from_slice}
use Rattle.std.proofs.lemmas.Iterator.Search.{find_from_yields_List}
use Rattle.rehearsal.specs.declared.glossary.Word.{Word}
use Rattle.rehearsal.specs.Words.{text_for}
use Rattle.rehearsal.proofs.Wording.{find_text}
use Rattle.rehearsal.proofs.glossary.Glossary.text_of.Goals as goal

pub returns : goal.returns
returns c =
    let words = vec_items c.self.inside.words in
    let found =
    find_from_yields_List {all = words} (λ (w : Word). w.name == c.args.name) _ _ c.find.result c.find.ensures.ran
    (YieldsList-from_slice _ cc) (λ x b q k. search (rules, tests)) in
    let text = λ (o : Option Word). unwrap_or (option_map (λ (w : Word). vec_items w.text) o) [] in
    let told : c.map_or.result.now ≡ text (option_map (λ b. b.now) c.find.result) = search rules in
    told ∙ ap text found ∙ find_text c.args.name words ∙ ap (text_for c.args.name) c.self.view_is
