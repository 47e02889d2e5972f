-- What is written mark by mark is the list of the definition; and so the whole: the steps on tables write the order. Assumes nothing.
use Rattle.std.proofs.Common.{◌≡◌, ℕ, suc, ◌+◌, ◌-◌, ◌*◌, ◌<◌, ◌≤◌, T, List, [], ◌∷◌, ◌++◌, length, get_or, sym, refl, ap, ◌∙◌, subst, ⊎_elim, zero-mul, arith, length-append}
use Rattle.model.specs.Names.{distinct, without}
use Rattle.model.specs.Thresholds.{members}
use Rattle.model.specs.Blocks.{Book}
use Rattle.model.specs.Reach.{reached}
use Rattle.model.specs.Order.{sorted, listed}
use Rattle.model.proofs.Lists.{In, Within, in_none, in_here, in_there, in_cons, in_or_not, in_append, in_append_left, in_append_right}
use Rattle.model.proofs.Lists.{in_without, without_in, distinct_without, distinct_append, distinct-different, different_within}
use Rattle.model.proofs.Webs.{SoundWeb}
use Rattle.model.proofs.Reach.{reached_within, reached-distinct}
use Rattle.model.proofs.InOrder.{in_sorted, sorted_in}
use Rattle.order_theory.specs.Tables.{place_of, Links, all_written}
use Rattle.order_theory.proofs.Places.{Tabled}
use Rattle.order_theory.proofs.Marks.{Right, Own, Sunk, reached_marked}
use Rattle.order_theory.proofs.Rising.{Rises, rising_same, rising_distinct, sorted_rises}
use Rattle.order_theory.proofs.Chains.{Group, Groups, names_at, names_at_length, wrote, chain_wrote}

-- a list without repetition, all of it in the web, is no longer than the web
within_length : (web : List ℕ) → T (distinct web) → (xs : List ℕ) → T (distinct xs) → Within xs web → length xs ≤ length web
within_length web e xs d w =
    let p = different_within xs web w in
    let q = distinct-different xs d in
    let r = distinct-different web e in
    omega arith

in_names : (names xs : List ℕ) (y : ℕ) → In y (names_at names xs) → (s : ℕ) × In s xs × (get_or names s 0 ≡ y)
unfolding names_at
in_names names [] y t = absurd (in_none y t)
in_names names (s ∷ ss) y t =
    ⊎_elim (λ e. (s, in_here s ss, sym e)) (λ h. let r = in_names names ss y h in (r.0, in_there r.0 s ss r.1, r.2))
    (in_cons y (get_or names s 0) (names_at names ss) t)

names_in : (names xs : List ℕ) (s : ℕ) → In s xs → In (get_or names s 0) (names_at names xs)
unfolding names_at
names_in names [] s h = absurd (in_none s h)
names_in names (z ∷ zs) s h =
    ⊎_elim (λ e. subst (λ (q : ℕ). In (get_or names s 0) (get_or names q 0 ∷ names_at names zs)) e (in_here (get_or names s 0) (names_at names zs)))
    (λ k. in_there (get_or names s 0) (get_or names z 0) (names_at names zs) (names_in names zs s k))
    (in_cons s z zs h)

-- names at rising places rise by their places
names_rise : (key : ℕ → ℕ) (names xs : List ℕ) → ((s : ℕ) → In s xs → key (get_or names s 0) ≡ s) → Rises (λ s. s) xs → Rises key (names_at names xs)
unfolding names_at
names_rise key names [] h r = tt
names_rise key names (s ∷ ss) h r = (
  (λ y t.
      let n = in_names names ss y t in
      let l = r.0 n.0 n.1 in
      let a = h s (in_here s ss) in
      let c = h n.0 (in_there n.0 s ss n.1) in
      let d = ap key n.2 in
      omega arith),
  names_rise key names ss (λ z t. h z (in_there z s ss t)) r.1,
)

module _ {f : ℕ} {b : Book} {web : List ℕ} (sound : SoundWeb f b web) (short : length web ≤ 4096) (names marks : List ℕ)
    (tabled : Tabled (members f) b web names marks) where
  abbrev place : ℕ → ℕ
  place x = place_of (members f) b x

  abbrev mark_of : ℕ → ℕ
  mark_of x = get_or marks (place x) 0

  -- the names at the places of a mark's group: the web's blocks that have the mark, by their places
  module _ (nexts : List ℕ) (m h : ℕ) (low : 1 < m) (g : Group marks nexts m 0 h) where
    block_at : (s : ℕ) → In s g.places → In (get_or names s 0) web × (place (get_or names s 0) ≡ s)
    block_at s t =
        let e = (g.in_group s t).1 in
        let r = tabled.from s (omega arith) in
        let d : get_or names s 0 ≡ r.0 = ap (λ (q : ℕ). get_or names q 0) (sym r.2) ∙ tabled.named r.0 r.1 in
        (subst (λ w. In w web) (sym d) r.1, ap place d ∙ r.2)

    in-marked : (y : ℕ) → In y (names_at names g.places) → In y web × (mark_of y ≡ m)
    in-marked y t =
        let n = in_names names g.places y t in
        let p = block_at n.0 n.1 in
        subst (λ w. In w web × (mark_of w ≡ m)) n.2 (p.0, ap (λ (q : ℕ). get_or marks q 0) p.1 ∙ (g.in_group n.0 n.1).1)

    marked-in : (y : ℕ) → In y web → mark_of y ≡ m → In y (names_at names g.places)
    marked-in y hy e =
        subst (λ w. In w (names_at names g.places)) (tabled.named y hy)
        (names_in names g.places (place y) (g.group_in (place y) (omega arith) e))

    marked-rise : Rises place (names_at names g.places)
    marked-rise = names_rise place names g.places (λ s t. (block_at s t).1) g.rises

  module _ (all : List ℕ) (sunk : Sunk sound names 0 all marks) (most : ℕ) (few : (s : ℕ) → get_or marks s 0 < most) (links : Links)
      (groups : Groups marks most few 0 links) where
    reached-mark : (a m : ℕ) → In a web → m ≤ mark_of a → (z : ℕ) → In z (reached b a) → m ≤ mark_of z
    reached-mark a m ha l z hz =
        let e : 0 * members f ≡ 0 = zero-mul (members f) in
        reached_marked sound names 0 a m all marks (subst (λ (q : ℕ). Sunk sound names q all marks) (sym e) sunk) ha l z hz (omega arith)

    -- Mark by mark, what an anchor reaches and isn't listed yet.
    pub all_listed :
        (anchors ds : List ℕ) → Right sound names marks anchors → Own sound names marks anchors → T (distinct ds) → Within ds web →
        ((z : ℕ) → In z ds → length anchors + 2 ≤ mark_of z) → ((z : ℕ) → In z web → length anchors + 2 ≤ mark_of z → In z ds) →
        all_written names links (length anchors) (wrote ds) ≡ wrote (listed b ds anchors)
    unfolding all_written listed
    all_listed [] ds right own once inside low high = refl
    all_listed (a ∷ rest) ds right own once inside low high =
        let m = length rest + 2 in
        let g = groups.group m (omega arith) in
        let new = sorted b (without ds (reached b a)) in
        let ys = names_at names g.places in
        let ha = own.0.0 in
        let reach = reached_within b web sound.closed a ha in
        let new_in : (z : ℕ) → In z new → In z (reached b a) × (In z ds → ⊥) =
        λ z t. in_without z ds (reached b a) (in_sorted b z (without ds (reached b a)) t) in
        let in-new : (z : ℕ) → In z (reached b a) → (In z ds → ⊥) → In z new =
        λ z t n. sorted_in b z (without ds (reached b a)) (without_in z ds (reached b a) t n) in
        let new-rises =
        sorted_rises sound (without ds (reached b a)) (λ z t. reach z (in_without z ds (reached b a) t).0)
        (distinct_without ds (reached b a) (reached-distinct sound a ha)) in
        let same : ys ≡ new =
        rising_same place ys new (marked-rise links.nexts m (get_or links.heads m 0) (omega arith) g) new-rises
        (λ z t.
        let p = in-marked links.nexts m (get_or links.heads m 0) (omega arith) g z t in
        let e = p.1 in
        in-new z (right.0 z p.0 (omega arith)) (λ d. let l = low z d in omega arith))
        (λ z t.
        let p = new_in z t in
        let hz = reach z p.0 in
        let l = reached-mark a m ha own.0.1 z p.0 in
        let n : suc (length rest) + 2 ≤ mark_of z → ⊥ = λ u. p.1 (high z hz u) in
        marked-in links.nexts m (get_or links.heads m 0) (omega arith) g z hz (omega arith)) in
        let once' =
        distinct_append ds new once (rising_distinct place new new-rises) (λ z p q. (new_in z q).1 p) in
        let inside' : Within (ds ++ new) web =
        λ z t. ⊎_elim (inside z) (λ q. reach z (new_in z q).0) (in_append z ds new t) in
        let size = within_length web sound.once (ds ++ new) once' inside' in
        let len = length-append ds new in
        let len' = ap length same in
        let len'' = names_at_length names g.places in
        ap (all_written names links (length rest))
        (chain_wrote names links.nexts (4096 - length ds) (get_or links.heads m 0) ds g.places g.chain (omega arith) (omega arith)
        ∙ ap (λ u. wrote (ds ++ u)) same)
        ∙ all_listed rest (ds ++ new) right.1 own.1 once' inside'
        (λ z t.
        ⊎_elim (λ p. let l = low z p in omega arith) (λ p. reached-mark a m ha own.0.1 z (new_in z p).0) (in_append z ds new t))
        (λ z hz l.
        ⊎_elim (λ p. in_append_left z ds new p) (λ n. in_append_right z ds new (in-new z (right.0 z hz l) n)) (in_or_not z ds))
