-- The links: from each mark a chain through the places that have it, rising; and what is written by following a chain. Assumes nothing.
use Rattle.std.proofs.Common.{◌≡◌, ℕ, zero, suc, ◌+◌, ◌-◌, ◌<◌, ◌≤◌, eqb, ltb, List, [], ◌∷◌, ◌++◌, length, get_or, set, sym, refl, ap, ◌∙◌, subst, ⊎_elim, append_assoc, append-nil, arith, ltb→lt, nltb→le, length-append, length-set, get_or-set_other, get_or-set_same}
use lib.ListN.{get_or-eq_default}
use Rattle.model.specs.Seat.{padded}
use Rattle.model.proofs.Tools.{cond_cases, cond-else, not_eqb, same_or_not}
use Rattle.model.proofs.Lists.{In, in_none, in_here, in_there, in_cons}
use Rattle.order_theory.specs.Tables.{Links, linked, all_linked, Written, chain_written}
use Rattle.order_theory.proofs.Steps.{chain-none, written_is}
use Rattle.order_theory.proofs.Rising.{Rises}

-- from h, one more than a place or 0, the links lead through these places
abbrev pub Linked : List ℕ → ℕ → List ℕ → Type 0
Linked nexts h [] = h ≡ 0
Linked nexts h (s ∷ ss) = (h ≡ s + 1) × Linked nexts (get_or nexts s 0) ss

-- a link that is made at another place doesn't matter
linked_still : (nexts : List ℕ) (s v h : ℕ) (xs : List ℕ) → ((z : ℕ) → In z xs → z ≡ s → ⊥) → Linked nexts h xs → Linked (set nexts s v) h xs
linked_still nexts s v h [] n l = l
linked_still nexts s v h (x ∷ xs) n l = (
  l.0,
  subst (λ (q : ℕ). Linked (set nexts s v) q xs) (sym (get_or-set_other nexts s x v 0 (n x (in_here x xs))))
      (linked_still nexts s v (get_or nexts x 0) xs (λ z h. n z (in_there z x xs h)) l.1),
)

-- the places from k on that have the mark m, linked from h
pub record Group (marks nexts : List ℕ) (m k h : ℕ) : Type 0 where
  pub places : List ℕ
  pub chain : Linked nexts h places
  pub rises : Rises (λ s. s) places
  pub in_group : (s : ℕ) → In s places → (k ≤ s) × (get_or marks s 0 ≡ m)
  pub group_in : (s : ℕ) → k ≤ s → get_or marks s 0 ≡ m → In s places

module _ (marks : List ℕ) (most : ℕ) (few : (s : ℕ) → get_or marks s 0 < most) where
  -- the marks from 2 on each have their group
  pub record Groups (k : ℕ) (t : Links) : Type 0 where
    pub heads-size : length t.heads ≡ most
    pub nexts-room : (s : ℕ) → 1 < get_or marks s 0 → s < length t.nexts
    pub group : (m : ℕ) → 1 < m → Group marks t.nexts m k (get_or t.heads m 0)

  -- a place that doesn't have the mark leaves the group as it is
  passed :
      (m k h : ℕ) (nexts after : List ℕ) → ((xs : List ℕ) → ((z : ℕ) → In z xs → z ≡ k → ⊥) → Linked nexts h xs → Linked after h xs) →
      (get_or marks k 0 ≡ m → ⊥) → Group marks nexts m (suc k) h → Group marks after m k h
  passed m k h nexts after still n g = record {
    places = g.places;
    chain = still g.places (λ z t e. let p = (g.in_group z t).0 in omega arith) g.chain;
    rises = g.rises;
    in_group = λ s t. let p = g.in_group s t in let q = p.0 in (omega arith, p.1);
    group_in = λ s l e.
        ⊎_elim (λ d. absurd (n (ap (λ (q : ℕ). get_or marks q 0) (sym d) ∙ e))) (λ d. g.group_in s (omega arith) e) (same_or_not s k);
  }

  -- a place that has it stands before the group
  joined :
      (m k h h' : ℕ) (nexts : List ℕ) → k < length nexts → h' ≡ k + 1 → get_or marks k 0 ≡ m → Group marks nexts m (suc k) h →
      Group marks (set nexts k h) m k h'
  joined m k h h' nexts l e d g = record {
    places = k ∷ g.places;
    chain = (
      e,
      subst (λ (q : ℕ). Linked (set nexts k h) q g.places) (sym (get_or-set_same nexts k h 0 l))
          (linked_still nexts k h h g.places (λ z t c. let p = (g.in_group z t).0 in omega arith) g.chain),
    );
    rises = ((λ z t. let p = (g.in_group z t).0 in omega arith), g.rises);
    in_group = λ s t.
        ⊎_elim (λ c. (omega arith, ap (λ (q : ℕ). get_or marks q 0) c ∙ d)) (λ t'. let p = g.in_group s t' in let q = p.0 in (omega arith, p.1))
        (in_cons s k g.places t);
    group_in = λ s c p.
        ⊎_elim (λ q. subst (λ (z : ℕ). In s (z ∷ g.places)) q (in_here s g.places)) (λ q. in_there s k g.places (g.group_in s (omega arith) p))
        (same_or_not s k);
  }

  link_one : (k : ℕ) (t : Links) → Groups (suc k) t → Groups k (linked marks k t)
  link_one k t gs =
      let m₀ = get_or marks k 0 in
      let hs = gs.heads-size in
      let room = gs.nexts-room in
      let few₀ = few k in
      cond_cases (Groups k) (ltb 1 m₀) (record { heads = set t.heads m₀ (k + 1); nexts = set t.nexts k (get_or t.heads m₀ 0) }) t
      (λ h.
      let high = ltb→lt 1 m₀ h in
      let here = room k high in
      record {
        heads-size = length-set t.heads m₀ (k + 1) ∙ hs;
        nexts-room = λ s l. let e = length-set t.nexts k (get_or t.heads m₀ 0) in let r = room s l in omega arith;
        group = λ m low.
            ⊎_elim
            (λ e.
            subst (λ (m : ℕ). Group marks (set t.nexts k (get_or t.heads m₀ 0)) m k (get_or (set t.heads m₀ (k + 1)) m 0)) (sym e)
            (joined m₀ k (get_or t.heads m₀ 0) (get_or (set t.heads m₀ (k + 1)) m₀ 0) t.nexts (omega arith)
            (get_or-set_same t.heads m₀ (k + 1) 0 (omega arith)) refl (gs.group m₀ (omega arith))))
            (λ n.
            subst (λ (h : ℕ). Group marks (set t.nexts k (get_or t.heads m₀ 0)) m k h) (sym (get_or-set_other t.heads m₀ m (k + 1) 0 n))
            (passed m k (get_or t.heads m 0) t.nexts (set t.nexts k (get_or t.heads m₀ 0))
            (λ xs. linked_still t.nexts k (get_or t.heads m₀ 0) (get_or t.heads m 0) xs)
            (λ e. n (sym e)) (gs.group m low)))
            (same_or_not m m₀);
      })
      (λ f. record {
        heads-size = hs;
        nexts-room = room;
        group = λ m low.
            passed m k (get_or t.heads m 0) t.nexts t.nexts (λ xs n c. c)
            (λ e. let p = nltb→le 1 m₀ f in omega arith) (gs.group m low);
      })

  link_all : (k : ℕ) (t : Links) → Groups k t → Groups 0 (all_linked marks k t)
  unfolding all_linked
  link_all zero t gs = gs
  link_all (suc k) t gs = link_all k (linked marks k t) (link_one k t gs)

  -- From empty tables, each mark from 2 on is linked through all places that have it.
  pub all_linked_lem :
      (t : Links) → length t.heads ≡ most → ((s : ℕ) → 1 < get_or marks s 0 → s < length t.nexts) → ((m : ℕ) → get_or t.heads m 0 ≡ 0) →
      Groups 0 (all_linked marks (length marks) t)
  all_linked_lem t hs room none =
      link_all (length marks) t
      (record {
        heads-size = hs;
        nexts-room = room;
        group = λ m low. record {
          places = [];
          chain = none m;
          rises = tt;
          in_group = λ s h. absurd (in_none s h);
          group_in = λ s l e. let d = get_or-eq_default marks 0 l in absurd (omega arith);
        };
      })

-- ---- writing
-- the names at these places
unfoldable pub names_at : List ℕ → List ℕ → List ℕ
names_at names [] = []
names_at names (s ∷ ss) = get_or names s 0 ∷ names_at names ss

pub names_at_length : (names xs : List ℕ) → length (names_at names xs) ≡ length xs
unfolding names_at
names_at_length names [] = refl
names_at_length names (s ∷ ss) = ap suc (names_at_length names ss)

-- one name more
pad_more : (n : ℕ) (ds : List ℕ) (y : ℕ) → length ds < n → set (padded n ds) (length ds) y ≡ padded n (ds ++ (y ∷ []))
unfolding padded
pad_more zero ds y l = absurd (omega arith)
pad_more (suc n) [] y l = refl
pad_more (suc n) (d ∷ ds) y l = ap (λ u. d ∷ u) (pad_more n ds y (omega arith))

-- these, written at the front
abbrev pub wrote : List ℕ → Written
wrote ds = record { out = padded 4096 ds; count = length ds }

wrote_more : (ds : List ℕ) (y : ℕ) → length ds < 4096 →
    ◌≡◌ {A = Written} (record { out = set (padded 4096 ds) (length ds) y; count = length ds + 1 }) (wrote (ds ++ (y ∷ [])))
wrote_more ds y l = written_is (wrote (ds ++ (y ∷ []))) _ _ (pad_more 4096 ds y l) (sym (length-append ds (y ∷ [])))

-- Following a chain writes the names at its places.
pub chain_wrote :
    (names nexts : List ℕ) (k h : ℕ) (ds xs : List ℕ) → Linked nexts h xs → length ds + length xs ≤ 4096 → length xs ≤ k →
    chain_written names nexts k h (wrote ds) ≡ wrote (ds ++ names_at names xs)
unfolding names_at chain_written
chain_wrote names nexts k h ds [] l fits few =
    ap (λ (q : ℕ). chain_written names nexts k q (wrote ds)) l ∙ (chain-none names nexts k (wrote ds) ∙ ap wrote (sym (append-nil ds)))
chain_wrote names nexts zero h ds (s ∷ ss) l fits few = absurd (omega arith)
chain_wrote names nexts (suc k) h ds (s ∷ ss) l fits few =
    let y = get_or names s 0 in
    let p = l.0 in
    let e : h - 1 ≡ s = omega arith in
    let go : ℕ → Written =
    λ q. chain_written names nexts k (get_or nexts q 0) (record { out = set (padded 4096 ds) (length ds) (get_or names q 0); count = length ds + 1 }) in
    let len = length-append ds (y ∷ []) in
    cond-else (eqb h 0) _ _ (not_eqb h 0 (λ z. omega arith))
    ∙ (ap go e
    ∙ (ap (chain_written names nexts k (get_or nexts s 0)) (wrote_more ds y (omega arith))
    ∙ (chain_wrote names nexts k (get_or nexts s 0) (ds ++ (y ∷ [])) ss l.1 (omega arith) (omega arith)
    ∙ ap wrote (append_assoc ds (y ∷ []) (names_at names ss)))))
