use Rattle.std.proofs.Common.{vec_items, sym, ap, ◌∙◌}
use Rattle.lines.specs.Left.{left}
use Rattle.rehearsal.specs.Words.{names_in}
use Rattle.rehearsal.proofs.Wording.{behind, names_start, names_more, names_fail, names_end}
use Rattle.rehearsal.proofs.glossary.Glossary.names_of.Goals as goal

pub loop-text-init : goal.loop-text-init
loop-text-init c =
    names_start c.args.self.now (left c.args.texts) (vec_items c.new-names.result) c.new-names.ensures.items
    ∙ ap (λ words. behind (vec_items c.new-names.result) (names_in (left words) c.args.self.now)) (sym c.into_iter-text-iterator.ensures.into_iter_gives)

pub returns-in_default : goal.returns-in_default
returns-in_default c =
    sym (names_fail c.args.self.now (left c.args.texts) (left c.loop-text.text-iterator) (left c.next.new.self) c.in-Some.text.now
    (vec_items c.loop-text.names) c.in-Some.ensures.steps c.loop-text.invariant (sym c.name_of.ensures ∙ c.in_default.is))

pub loop-text-preserved : goal.loop-text-preserved
loop-text-preserved c =
    names_more c.args.self.now (left c.args.texts) (left c.loop-text.text-iterator) (left c.next.new.self) c.in-Some.text.now
    (vec_items c.loop-text.names) c.in-Some.ensures.steps c.loop-text.invariant c.in-Some-name_of.name (vec_items c.push.new.self)
    (sym c.in-Some-name_of.ensures) c.in_ok-push.ensures.items

pub returns : goal.returns
returns c =
    sym (names_end c.args.self.now (left c.args.texts) (left c.loop-text.text-iterator) (vec_items c.loop-text.names)
    c.in-None.ensures.steps.0 c.loop-text.invariant)
