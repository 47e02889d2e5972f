use Rattle.std.proofs.Common.{◌≡◌, ℕ, List, [], ◌∷◌, eqb, refl, sym, ◌∙◌, rules, tests}
use Rattle.std.specs.List.{list_any}
use Rattle.std.proofs.lemmas.Iterator.Search.{any_from_yields_List}
use Rattle.std.proofs.lemmas.Iterator.Consumers.{YieldsList-from_first}
use Rattle.model.specs.Names.{is_in}
use Rattle.order.proofs.grid.Grid.has_parent.Goals as goal

is_in_any : (x : ℕ) (xs : List ℕ) → is_in x xs ≡ list_any (λ y. eqb x y) xs
unfolding is_in
is_in_any x [] = refl
is_in_any x (y ∷ ys) = rw (is_in_any x ys)

pub returns : goal.returns
returns g c =
    any_from_yields_List (λ other. eqb c.args.parent other) _ _ _ c.any.ensures.ran
    (YieldsList-from_first (λ x. x) (λ rest. rest) _ c.parents_of.ensures) (λ x b q k. search (rules, tests))
    ∙ sym (is_in_any c.args.parent _)
