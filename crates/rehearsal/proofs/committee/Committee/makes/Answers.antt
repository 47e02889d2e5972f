use Rattle.std.proofs.Common.{◌<◌, length, is_ok, sym, refl, ap, ◌∙◌, arith, subst}
use Rattle.std.proofs.Math.Logic.{∥∥₁_map, ∥∥₁_elim}
use Rattle.std.specs.Coded.{le_prop}
use Rattle.book.specs.Views.{held}
use Rattle.replica.specs.Answers.{number_of}
use Rattle.rehearsal.specs.Scenes.{world_in}
use Rattle.rehearsal.specs.Played.{parts}
use Rattle.rehearsal.proofs.Acting.{makes-refused, makes-done, done_is, not_done}
use Rattle.rehearsal.proofs.committee.Committee.makes.Goals as goal

-- the seat denied it
pub returns-in_err-make-clause-acted : goal.returns-in_err-make-clause-acted
returns-in_err-make-clause-acted c s p =
    let acted =
    makes-refused s (parts c.args.self.now) p c.make.new.self c.args.member c.args.name (sym (c.if-not-is_good.ensures s p))
    (held c.view-book.result) (c.view-book.ensures ∙ p.book) (number_of c.make.result) _ (not_done c.from_residual.result c.make.result c.in_err-make.field-0.0 c.from_residual.ensures.0 c.in_err-make.was) (c.make.ensures (world_in s).all p.seats) in
    record { right = acted.right; after = acted.after }

pub invariant_of-self : goal.invariant_of-self
invariant_of-self c = record {
  played = ∥∥₁_map c.args.self.now.played (λ (s, p).
      let acted =
      makes-refused s (parts c.args.self.now) p c.make.new.self c.args.member c.args.name (sym (c.if-not-is_good.ensures s p))
      (held c.view-book.result) (c.view-book.ensures ∙ p.book) (number_of c.make.result) _ (refl, sym (ap is_ok c.in_err-make.was) ∙ done_is c.make.result) (c.make.ensures (world_in s).all p.seats) in
      (s, acted.after));
}

-- or it is done
pub returns-clause-acted : goal.returns-clause-acted
returns-clause-acted c s p =
    let acted =
    makes-done s (parts c.args.self.now) p c.make.new.self c.args.member c.args.name (sym (c.if-not-is_good.ensures s p))
    (held c.view-book.result) (c.view-book.ensures ∙ p.book) (number_of c.make.result) c.make-2.new.self (sym (ap is_ok c.in_ok-make.was) ∙ done_is c.make.result) (c.make.ensures (world_in s).all p.seats)
    (subst (λ l. c.args.name < length l) p.book c.requires) (c.make-2.ensures.noted (world_in s).signatures (world_in s).made p.notes) c.make-2.ensures.long in
    record { right = acted.right; after = acted.after }

pub invariant_of-self-2 : goal.invariant_of-self-2
invariant_of-self-2 c = record {
  played = ∥∥₁_map c.args.self.now.played (λ (s, p).
      let acted =
      makes-done s (parts c.args.self.now) p c.make.new.self c.args.member c.args.name (sym (c.if-not-is_good.ensures s p))
      (held c.view-book.result) (c.view-book.ensures ∙ p.book) (number_of c.make.result) c.make-2.new.self (sym (ap is_ok c.in_ok-make.was) ∙ done_is c.make.result) (c.make.ensures (world_in s).all p.seats)
      (subst (λ l. c.args.name < length l) p.book c.requires) (c.make-2.ensures.noted (world_in s).signatures (world_in s).made p.notes) c.make-2.ensures.long in
      (_, acted.after));
}

pub make-requires-2 : goal.make-requires-2
make-requires-2 c = ∥∥₁_elim c.args.self.now.played le_prop (λ (s, p). let same = ap length p.book in omega (arith, p.noted))
