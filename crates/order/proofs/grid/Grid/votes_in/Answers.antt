use Rattle.std.proofs.Common.{◌≡◌, ℕ, ◌+◌, zero, suc, true, false, Bool, cond, List, [], ◌∷◌, ◌++◌, map, length, refl, sym, ap, ◌∙◌, add-one, arith, rules, tests}
use Rattle.std.specs.List.{filter, range_with_len}
use Rattle.std.proofs.lemmas.List.{map-id, length-append}
use Rattle.std.proofs.lemmas.List.FromFn.{filter_of_map_range_with_len_more}
use Rattle.std.proofs.lemmas.Iterator.{YieldsList-from_range}
use Rattle.std.proofs.lemmas.Iterator.Consumers.{count_from_yields_List, YieldsList-from_filter}
use Rattle.model.specs.Blocks.{Book}
use Rattle.order_theory.specs.Tables.{votes_at, votes_in}
use Rattle.order.proofs.grid.Grid.votes_in.Goals as goal

one_more : (v : Bool) (n : ℕ) (xs : List ℕ) → length (xs ++ cond v (n ∷ []) []) ≡ cond v (suc (length xs)) (length xs)
one_more true n xs = grind (arith, length-append)
one_more false n xs = grind (arith, length-append)

-- the places that pass a test, of one place more
passes_more :
    (p : ℕ → Bool) (row k : ℕ) →
    length (filter p (range_with_len row (k + 1))) ≡ cond (p (row + k)) (suc (length (filter p (range_with_len row k)))) (length (filter p (range_with_len row k)))
passes_more p row k =
    ap (λ l. length (filter p l)) (sym (map-id (range_with_len row (k + 1))))
    ∙ (ap (λ l. length l) (filter_of_map_range_with_len_more p (λ i. i) row k (row + k) refl)
    ∙ (one_more (p (row + k)) (row + k) (filter p (map (λ (i : ℕ). i) (range_with_len row k)))
    ∙ ap (λ l. cond (p (row + k)) (suc (length (filter p l))) (length (filter p l))) (map-id (range_with_len row k))))

-- the votes are the places that pass their test, from the first one on
votes_counted :
    (b : Book) (x : ℕ) (names marks : List ℕ) (row k : ℕ) →
    length (filter (λ s. votes_at b x names marks s) (range_with_len row k)) ≡ votes_in b x names marks row k
unfolding votes_in
votes_counted b x names marks row zero = refl
votes_counted b x names marks row (suc k) =
    ap (λ (j : ℕ). length (filter (λ s. votes_at b x names marks s) (range_with_len row j))) (sym (add-one k))
    ∙ (passes_more (λ s. votes_at b x names marks s) row k
    ∙ ap (λ (v : ℕ). cond (votes_at b x names marks (row + k)) (suc v) v) (votes_counted b x names marks row k))

pub returns : goal.returns
returns g c =
    let t = c.args.self.now in
    let b = g.B.Library.what t.book.now in
    let row = c.row-row.result in
    let n = t.width.places in
    count_from_yields_List c.filter.result _ c.count.ensures.ran
    (YieldsList-from_filter _ (λ s. votes_at b c.args.name t.names t.marks s) (YieldsList-from_range row _ n c.filter.ensures.source (omega arith))
    c.filter.ensures.closure (λ x r q k. search (rules, tests)))
    ∙ (votes_counted b c.args.name t.names t.marks row n ∙ ap (λ (r : ℕ). votes_in b c.args.name t.names t.marks r n) c.row-row.ensures.row)
