-- A line of a text ends at the text's first line feed, or with the text.
-- Assumes nothing.

use Rattle.std.proofs.Common.{◌≡◌, ℕ, zero, suc, ◌+◌, ◌<◌, List, [], ◌∷◌, length, get_or, take, drop, sym, refl, ap, ◌∙◌, add-one, arith}
use Rattle.std.proofs.lemmas.Bool.{cond-true, cond-false, eq-eqb, ne_eqb}
use Rattle.scheme.specs.Keys.{first_line, after_line}

-- Byte i is the first line feed.
pub at_feed : (t : List ℕ) (i : ℕ) → i < length t → get_or t i 0 ≡ 10 → ((k : ℕ) → k < i → get_or t k 0 ≡ 10 → ⊥)
    → (take i t ≡ first_line t) × (drop (i + 1) t ≡ after_line t)
unfolding first_line after_line
at_feed [] i h feed none = absurd (omega arith)
at_feed (b ∷ bs) zero h feed none =
    let e = eq-eqb b 10 feed in
    (sym (cond-true _ [] (b ∷ first_line bs) e), sym (cond-true _ bs (after_line bs) e))
at_feed (b ∷ bs) (suc i) h feed none =
    let e = ne_eqb b 10 (none 0 (omega arith)) in
    let rest = at_feed bs i (omega arith) feed (λ k l. none (suc k) (omega arith)) in
    let next : drop (suc i + 1) (b ∷ bs) ≡ drop (i + 1) bs = ap (λ k. drop k (b ∷ bs)) (add-one (suc i)) ∙ ap (λ k. drop k bs) (sym (add-one i)) in
    (ap (λ l. b ∷ l) rest.0 ∙ sym (cond-false _ [] (b ∷ first_line bs) e), next ∙ rest.1 ∙ sym (cond-false _ bs (after_line bs) e))

-- There is no line feed.
pub no_feed : (t : List ℕ) → ((k : ℕ) → k < length t → get_or t k 0 ≡ 10 → ⊥) → (t ≡ first_line t) × ([] ≡ after_line t)
unfolding first_line after_line
no_feed [] none = (refl, refl)
no_feed (b ∷ bs) none =
    let e = ne_eqb b 10 (none 0 (omega arith)) in
    let rest = no_feed bs (λ k l. none (suc k) (omega arith)) in
    (ap (λ l. b ∷ l) rest.0 ∙ sym (cond-false _ [] (b ∷ first_line bs) e), rest.1 ∙ sym (cond-false _ bs (after_line bs) e))
