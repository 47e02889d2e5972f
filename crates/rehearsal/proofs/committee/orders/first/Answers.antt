use Rattle.std.proofs.Common.{ℕ, ◌≡◌, List, vec_items, take, ap, ◌∙◌, subst}
use Rattle.std.specs.Prelude.{IfOk}
use Rattle.std.proofs.lemmas.List.{take_min}
use Rattle.rehearsal.proofs.committee.orders.first.Goals as goal

pub returns : goal.returns
returns c =
    subst (λ (front : List ℕ). IfOk c.from_slice.result (λ v. vec_items v ≡ front)) (ap (λ n. take n c.args.names.now) c.min.ensures ∙ take_min c.args.count c.args.names.now)
    c.from_slice.ensures.items
