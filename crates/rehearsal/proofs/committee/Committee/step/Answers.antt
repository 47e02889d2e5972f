use Rattle.std.proofs.Common.{ap, length, sym, ◌∙◌, subst, ◌<◌}
use Rattle.std.proofs.Math.Logic.{∥∥₁_elim}
use Rattle.std.specs.Coded.{le_prop}
use Rattle.rehearsal.specs.Words.{name_in}
use Rattle.rehearsal.specs.Played.{parts}
use Rattle.rehearsal.proofs.Setting.{name_there}
use Rattle.rehearsal.proofs.committee.Committee.step.Goals as goal

pub makes-requires : goal.makes-requires
makes-requires c =
    ∥∥₁_elim c.args.self.now.played le_prop (λ w.
    subst (λ l. c.in_ok-name.name < length l) (sym w.1.book)
    (name_there w.0 (parts c.args.self.now) w.1 c.args.word.now c.in_ok-name.name
    (ap (name_in c.args.word.now) (sym w.1.words) ∙ sym c.name_of.ensures ∙ c.in_ok-name.ensures.ok_part)))

pub signs-requires : goal.signs-requires
signs-requires c =
    ∥∥₁_elim c.args.self.now.played le_prop (λ w.
    subst (λ l. c.in_ok-name.name < length l) (sym w.1.book)
    (name_there w.0 (parts c.args.self.now) w.1 c.args.word.now c.in_ok-name.name
    (ap (name_in c.args.word.now) (sym w.1.words) ∙ sym c.name_of.ensures ∙ c.in_ok-name.ensures.ok_part)))

pub takes-requires : goal.takes-requires
takes-requires c =
    ∥∥₁_elim c.args.self.now.played le_prop (λ w.
    subst (λ l. c.in_ok-name.name < length l) (sym w.1.book)
    (name_there w.0 (parts c.args.self.now) w.1 c.args.word.now c.in_ok-name.name
    (ap (name_in c.args.word.now) (sym w.1.words) ∙ sym c.name_of.ensures ∙ c.in_ok-name.ensures.ok_part)))

pub forges-requires : goal.forges-requires
forges-requires c =
    ∥∥₁_elim c.args.self.now.played le_prop (λ w.
    subst (λ l. c.in_ok-name.name < length l) (sym w.1.book)
    (name_there w.0 (parts c.args.self.now) w.1 c.args.word.now c.in_ok-name.name
    (ap (name_in c.args.word.now) (sym w.1.words) ∙ sym c.name_of.ensures ∙ c.in_ok-name.ensures.ok_part)))
