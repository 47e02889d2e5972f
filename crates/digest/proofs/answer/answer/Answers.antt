use Rattle.std.proofs.Common.{◌≡◌, ℕ, List, IfOk, Some, None, vec_items, codes, sym, ap, ◌∙◌, subst}
use Rattle.std.specs.Option.{option_map}
use Rattle.lines.specs.Hex.{decoded}
use Rattle.digest.specs.Answer.{digests_of, answered, answer_of}
use Rattle.digest.proofs.answer.answer.Goals as goal

pub returns-in-Some : goal.returns-in-Some
unfolding answer_of
returns-in-Some c =
    let read : decoded c.args.line.now ≡ Some (vec_items c.in-Some.message)
    = sym c.in_ok-message.ensures ∙ ap (option_map vec_items) c.in-Some.is in
    let text : digests_of c.deref.result.now ≡ answer_of c.args.line.now
    = ap digests_of c.deref.ensures.value ∙ ap answered (sym read) in
    subst (λ (t : List ℕ). IfOk c.digests.result (λ v. vec_items v ≡ t)) text c.digests.ensures

pub returns-in-None : goal.returns-in-None
unfolding answer_of
returns-in-None c =
    let read : decoded c.args.line.now ≡ None
    = sym c.in_ok-message.ensures ∙ ap (option_map vec_items) c.in-None.is in
    let text : codes "no" ≡ answer_of c.args.line.now = ap answered (sym read) in
    subst (λ (t : List ℕ). IfOk c.refusal.result (λ v. vec_items v ≡ t)) text c.refusal.ensures
