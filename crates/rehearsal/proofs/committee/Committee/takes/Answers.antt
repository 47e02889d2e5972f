use Rattle.std.proofs.Common.{◌<◌, eqb, length, is_ok, sym, refl, ap, ◌∙◌, subst}
use Rattle.std.proofs.Math.Logic.{∥∥₁_map}
use Rattle.book.specs.Views.{held}
use Rattle.model.specs.Seat.{done}
use Rattle.replica.specs.Answers.{number_of}
use Rattle.rehearsal.specs.Scenes.{world_in}
use Rattle.rehearsal.specs.Played.{parts}
use Rattle.rehearsal.proofs.Acting.{takes-so, done_is, not_done}
use Rattle.rehearsal.proofs.committee.Committee.takes.Goals as goal

pub invariant_of-self : goal.invariant_of-self
invariant_of-self c = record {
  played = ∥∥₁_map c.args.self.now.played (λ (s, p).
      let acted =
      takes-so s (parts c.args.self.now) p c.take.new.self c.args.member c.args.name (sym (c.if-not-is_good.ensures s p))
      (held c.view-book.result) (c.view-book.ensures ∙ p.book) (number_of c.take.result)
      c.is_certified-certified.result (c.is_certified-certified.ensures s p) (eqb (number_of c.take.result) done) refl (c.take.ensures (world_in s).all p.seats) (subst (λ l. c.args.name < length l) p.book c.requires) in
      (_, acted.after));
}

-- the seat denied it
pub returns-in_err-take-clause-acted : goal.returns-in_err-take-clause-acted
returns-in_err-take-clause-acted c s p =
    let no = not_done c.from_residual.result c.take.result c.in_err-take.field-0.0 c.from_residual.ensures.0 c.in_err-take.was in
    let acted =
    takes-so s (parts c.args.self.now) p c.take.new.self c.args.member c.args.name (sym (c.if-not-is_good.ensures s p))
    (held c.view-book.result) (c.view-book.ensures ∙ p.book) (number_of c.take.result)
    c.is_certified-certified.result (c.is_certified-certified.ensures s p) _ (no.0 ∙ no.1) (c.take.ensures (world_in s).all p.seats) (subst (λ l. c.args.name < length l) p.book c.requires) in
    record { right = acted.right; after = acted.after }

-- or it is done
pub returns-clause-acted : goal.returns-clause-acted
returns-clause-acted c s p =
    let acted =
    takes-so s (parts c.args.self.now) p c.take.new.self c.args.member c.args.name (sym (c.if-not-is_good.ensures s p))
    (held c.view-book.result) (c.view-book.ensures ∙ p.book) (number_of c.take.result)
    c.is_certified-certified.result (c.is_certified-certified.ensures s p) _ (sym (ap is_ok c.in_ok-take.was) ∙ done_is c.take.result) (c.take.ensures (world_in s).all p.seats) (subst (λ l. c.args.name < length l) p.book c.requires) in
    record { right = acted.right; after = acted.after }
