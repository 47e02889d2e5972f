-- From a sponge to the hashers over it, for every rate and suffix.
-- What the calls of the sponge ensure is taken as given.

use Rattle.std.proofs.Common.{◌≡◌, ℕ, List, ◌++◌, sym, ap, ◌∙◌, subst}
use Rattle.sha3.specs.Sponge.{sponge}
use Rattle.sha3.specs.Feeding.{Holds}
use Rattle.sha3.specs.Holding.{Fed}
use Rattle.sha3.specs.declared.sponge.Sponge.{Sponge}

-- More bytes.
pub fed_more : (rate suffix : ℕ) (p q : Sponge) (bytes : List ℕ) → (q.rate ≡ p.rate) × (q.suffix ≡ p.suffix)
    → ((fed : List ℕ) → Holds p.rate p.state p.at fed → Holds p.rate q.state q.at (fed ++ bytes))
    → (fed : List ℕ) → Fed rate suffix p fed → Fed rate suffix q (fed ++ bytes)
unfolding Fed
fed_more rate suffix p q bytes kept more fed h = (
  kept.0 ∙ h.0,
  kept.1 ∙ h.1,
  subst (λ r. Holds r q.state q.at (fed ++ bytes)) h.0
      (more fed (subst (λ r. Holds r p.state p.at fed) (sym h.0) h.2)),
)

-- The end.
pub fed_done : (rate suffix n : ℕ) (p : Sponge) (out : List ℕ)
    → ((fed : List ℕ) → Holds p.rate p.state p.at fed → out ≡ sponge p.rate p.suffix n fed)
    → (fed : List ℕ) → Fed rate suffix p fed → out ≡ sponge rate suffix n fed
unfolding Fed
fed_done rate suffix n p out done fed h =
    done fed (subst (λ r. Holds r p.state p.at fed) (sym h.0) h.2)
    ∙ ap (λ r. sponge r p.suffix n fed) h.0
    ∙ ap (λ x. sponge rate x n fed) h.1
