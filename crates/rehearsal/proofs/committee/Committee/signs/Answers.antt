use Rattle.std.proofs.Common.{◌<◌, ◌≤◌, length, is_ok, sym, refl, ap, ◌∙◌, arith, subst}
use Rattle.std.proofs.Math.Logic.{∥∥₁_map, ∥∥₁_elim}
use Rattle.std.specs.Coded.{le_prop}
use Rattle.book.specs.Views.{held}
use Rattle.replica.specs.Answers.{number_of, LeaveFor}
use Rattle.rehearsal.specs.Scenes.{world_in, is_bad}
use Rattle.rehearsal.specs.Played.{parts}
use Rattle.rehearsal.proofs.Acting.{signs-refused, signs-done, done_is, not_done, small_number}
use Rattle.rehearsal.proofs.committee.Committee.signs.Goals as goal

-- the seat denied it
pub returns-in_err-leave-clause-acted : goal.returns-in_err-leave-clause-acted
returns-in_err-leave-clause-acted c s p =
    let acted =
    signs-refused s (parts c.args.self.now) p c.sign.new.self c.args.member c.args.name (sym (c.if-not-is_good.ensures s p))
    (held c.view-book.result) (c.view-book.ensures ∙ p.book) (number_of c.sign.result) c.is_genuine-genuine.result (c.is_genuine-genuine.ensures s p) _ (not_done c.from_residual.result c.sign.result c.in_err-leave.field-0.0 c.from_residual.ensures.0 c.in_err-leave.was) (c.sign.ensures.steps (world_in s).all p.seats) in
    record { right = acted.right; after = acted.after }

pub invariant_of-self : goal.invariant_of-self
invariant_of-self c = record {
  played = ∥∥₁_map c.args.self.now.played (λ (s, p).
      let acted =
      signs-refused s (parts c.args.self.now) p c.sign.new.self c.args.member c.args.name (sym (c.if-not-is_good.ensures s p))
      (held c.view-book.result) (c.view-book.ensures ∙ p.book) (number_of c.sign.result) c.is_genuine-genuine.result (c.is_genuine-genuine.ensures s p) _ (refl, sym (ap is_ok c.in_err-leave.was) ∙ done_is c.sign.result) (c.sign.ensures.steps (world_in s).all p.seats) in
      (s, acted.after));
}

-- or it is done
pub returns-clause-acted : goal.returns-clause-acted
returns-clause-acted c s p =
    let acted =
    signs-done s (parts c.args.self.now) p c.sign.new.self c.args.member c.args.name (sym (c.if-not-is_good.ensures s p))
    (held c.view-book.result) (c.view-book.ensures ∙ p.book) (number_of c.sign.result) c.sign-2.new.self c.is_genuine-genuine.result (c.is_genuine-genuine.ensures s p) (sym (ap is_ok c.in_ok-leave.was) ∙ done_is c.sign.result) (c.sign.ensures.steps (world_in s).all p.seats)
    (subst (λ l. c.args.name < length l) p.book c.requires) c.in_ok-leave.leave.number c.in_ok-leave.leave.name (subst (LeaveFor c.args.member c.args.name) c.in_ok-leave.was (c.sign.ensures.leaves (world_in s).all p.seats)).0 (subst (LeaveFor c.args.member c.args.name) c.in_ok-leave.was (c.sign.ensures.leaves (world_in s).all p.seats)).1
    (c.sign-2.ensures.noted (world_in s).signatures (world_in s).made p.notes) c.sign-2.ensures.long in
    record { right = acted.right; after = acted.after }

pub invariant_of-self-2 : goal.invariant_of-self-2
invariant_of-self-2 c = record {
  played = ∥∥₁_map c.args.self.now.played (λ (s, p).
      let acted =
      signs-done s (parts c.args.self.now) p c.sign.new.self c.args.member c.args.name (sym (c.if-not-is_good.ensures s p))
      (held c.view-book.result) (c.view-book.ensures ∙ p.book) (number_of c.sign.result) c.sign-2.new.self c.is_genuine-genuine.result (c.is_genuine-genuine.ensures s p) (sym (ap is_ok c.in_ok-leave.was) ∙ done_is c.sign.result) (c.sign.ensures.steps (world_in s).all p.seats)
      (subst (λ l. c.args.name < length l) p.book c.requires) c.in_ok-leave.leave.number c.in_ok-leave.leave.name (subst (LeaveFor c.args.member c.args.name) c.in_ok-leave.was (c.sign.ensures.leaves (world_in s).all p.seats)).0 (subst (LeaveFor c.args.member c.args.name) c.in_ok-leave.was (c.sign.ensures.leaves (world_in s).all p.seats)).1
      (c.sign-2.ensures.noted (world_in s).signatures (world_in s).made p.notes) c.sign-2.ensures.long in
      (_, acted.after));
}

pub sign-requires-2 : goal.sign-requires-2
sign-requires-2 c = record {
  who = ∥∥₁_elim c.args.self.now.played le_prop (λ (s, p).
      let small = small_number s.faults c.args.member (is_bad s) (subst (λ f. f ≤ 4) p.faults c.args.self.now.faults.few) (sym (c.if-not-is_good.ensures s p)) in
      let who = (subst (LeaveFor c.args.member c.args.name) c.in_ok-leave.was (c.sign.ensures.leaves (world_in s).all p.seats)).0 in
      omega arith);
  there = ∥∥₁_elim c.args.self.now.played le_prop (λ (s, p).
      let same = ap length p.book in let name = (subst (LeaveFor c.args.member c.args.name) c.in_ok-leave.was (c.sign.ensures.leaves (world_in s).all p.seats)).1 in omega (arith, p.noted));
}
