-- Going back from the last anchor by marks: the anchors found are those of the definition, and in the end a block has an anchor's mark, or a
-- higher one, exactly if that anchor reaches it. Assumes nothing.
use Rattle.std.proofs.Common.{◌≡◌, ℕ, zero, suc, ◌+◌, ◌*◌, ◌/◌, ◌%◌, ◌<◌, ◌≤◌, cond, eqb, ltb, ◌⊎◌, List, [], ◌∷◌, ◌++◌, length, get_or, set, sym, refl, ap, ◌∙◌, subst, inl, inr, ⊎_elim, append_assoc, append-nil, suc-mul, zero-mul, arith, eqb→eq, ltb→lt, nltb→le, T_not, length-append, length-set, get_or-set_same}
use lib.Dec.{not_T}
use Rattle.model.specs.Names.{is_in}
use Rattle.model.specs.Thresholds.{members}
use Rattle.model.specs.Blocks.{Book}
use Rattle.model.specs.Reach.{reached}
use Rattle.model.specs.Order.{Sought, Missing, Found, leader_block, anchors_to}
use Rattle.model.proofs.Tools.{cond_cases, cond-then, cond-else, eq→eqb, not_eqb, same_or_not}
use Rattle.model.proofs.Lists.{In, in_none, in_here, in_there, in_cons}
use Rattle.model.proofs.Validity.{valid_earlier}
use Rattle.model.proofs.Webs.{SoundWeb}
use Rattle.model.proofs.Reach.{reached_self, reached_all, reached_parents}
use Rattle.order_theory.specs.Tables.{place_of, leader_place, raised, raised_all, handed_on, row_handed_on}
use Rattle.order_theory.specs.Tables.{Marked, leader_tested, one_row, went_back, marked_from}
use Rattle.order_theory.proofs.Places.{place_alone, place_before, place_from, Tabled, set_either}
use Rattle.order_theory.proofs.Votes.{leader_there, leader_place_lem}

-- ---- marks raised to m at the places of a list of blocks
record Raised (n : ℕ) (b : Book) (m : ℕ) (ps marks after : List ℕ) : Type 0 where
  size : length after ≡ length marks
  grows : (q : ℕ) → get_or marks q 0 ≤ get_or after q 0
  there : (p : ℕ) → In p ps → place_of n b p < length marks → m ≤ get_or after (place_of n b p) 0
  only : (q : ℕ) → (get_or after q 0 ≡ get_or marks q 0) ⊎ ((get_or after q 0 ≡ m) × ((p : ℕ) × In p ps × (place_of n b p ≡ q)))

-- a write that raises
record Grown (s m : ℕ) (marks after : List ℕ) : Type 0 where
  size : length after ≡ length marks
  grows : (q : ℕ) → get_or marks q 0 ≤ get_or after q 0
  there : s < length marks → m ≤ get_or after s 0
  only : (q : ℕ) → (get_or after q 0 ≡ get_or marks q 0) ⊎ ((get_or after q 0 ≡ m) × (q ≡ s))

set_grows : (s m : ℕ) (marks : List ℕ) → get_or marks s 0 ≤ m → Grown s m marks (set marks s m)
set_grows s m marks h = record {
  size = length-set marks s m;
  grows = λ q.
      ⊎_elim (λ p. let e = p.1 in let d = ap (λ (k : ℕ). get_or marks k 0) p.0 in omega arith) (λ e. omega arith) (set_either marks s m q);
  there = λ l. let e = get_or-set_same marks s m 0 l in omega arith;
  only = λ q. ⊎_elim (λ p. inr (p.1, p.0)) (λ e. inl e) (set_either marks s m q);
}

raise_grows : (s m : ℕ) (marks : List ℕ) → Grown s m marks (raised marks s m)
raise_grows s m marks =
    cond_cases (Grown s m marks) (ltb (get_or marks s 0) m) (set marks s m) marks
    (λ t. let l = ltb→lt (get_or marks s 0) m t in set_grows s m marks (omega arith))
    (λ t. let l = nltb→le (get_or marks s 0) m t in record { size = refl; grows = λ q. omega arith; there = λ _. l; only = λ q. inl refl })

raised_all_lem : (n : ℕ) (b : Book) (m : ℕ) (ps marks : List ℕ) → Raised n b m ps marks (raised_all n b m ps marks)
unfolding raised_all
raised_all_lem n b m [] marks = record { size = refl; grows = λ q. omega arith; there = λ p h. absurd (in_none p h); only = λ q. inl refl }
raised_all_lem n b m (p ∷ ps) marks =
    let t = raised marks (place_of n b p) m in
    let g = raise_grows (place_of n b p) m marks in
    let ih = raised_all_lem n b m ps t in
    let len = g.size in
    record {
      size = ih.size ∙ len;
      grows = λ q. let a = g.grows q in let c = ih.grows q in omega arith;
      there = λ r h l.
          ⊎_elim
          (λ e.
          let a = g.there (subst (λ z. place_of n b z < length marks) e l) in
          let c = ih.grows (place_of n b p) in
          let d = ap (λ z. get_or (raised_all n b m ps t) (place_of n b z) 0) e in
          omega arith)
          (λ k. ih.there r k (omega arith))
          (in_cons r p ps h);
      only = λ q.
          ⊎_elim
          (λ e. ⊎_elim (λ d. inl (e ∙ d)) (λ d. inr (e ∙ d.0, (p, in_here p ps, sym d.1))) (g.only q))
          (λ d. inr (d.0, (d.1.0, in_there d.1.0 p ps d.1.1, d.1.2)))
          (ih.only q);
    }

module _ {f : ℕ} {b : Book} {web : List ℕ} (sound : SoundWeb f b web) (names : List ℕ) where
  abbrev place : ℕ → ℕ
  place x = place_of (members f) b x

  abbrev mark_of : List ℕ → ℕ → ℕ
  mark_of marks x = get_or marks (place x) 0

  -- what has an anchor's mark, or a higher one, is reached from that anchor; of a list of anchors, the earliest first, the last has the mark 2
  abbrev pub Right : List ℕ → List ℕ → Type 0
  Right marks [] = Unit {0}
  Right marks (a ∷ rest) = ((z : ℕ) → In z web → length rest + 2 ≤ mark_of marks z → In z (reached b a)) × Right marks rest

  -- an anchor is in the web and has its own mark or a higher one
  abbrev pub Own : List ℕ → List ℕ → Type 0
  Own marks [] = Unit {0}
  Own marks (a ∷ rest) = (In a web × (length rest + 2 ≤ mark_of marks a)) × Own marks rest

  -- the state with these anchors found, after the blocks from place p on have handed on their marks
  pub record Sunk (p : ℕ) (anchors marks : List ℕ) : Type 0 where
    pub tabled : Tabled (members f) b web names marks
    pub room : (x : ℕ) → In x web → place x < length marks
    pub most : (x : ℕ) → In x web → mark_of marks x ≤ length anchors + 1
    pub right : Right marks anchors
    pub own : Own marks anchors
    pub handed : (y z : ℕ) → In y web → p ≤ place y → In z (b y).parents → mark_of marks y ≤ mark_of marks z

  own_grows : (anchors marks after : List ℕ) → ((q : ℕ) → get_or marks q 0 ≤ get_or after q 0) → Own marks anchors → Own after anchors
  own_grows [] marks after g o = tt
  own_grows (a ∷ rest) marks after g o =
      let l = o.0.1 in let m = g (place a) in ((o.0.0, omega arith), own_grows rest marks after g o.1)

  -- if what got a higher mark was, before, reached from all anchors of that mark
  right_grows :
      (anchors marks after : List ℕ) →
      ((a z m : ℕ) → m ≤ length anchors + 1 → In a anchors → In z web → ((w : ℕ) → In w web → m ≤ mark_of marks w → In w (reached b a)) →
      m ≤ mark_of after z → In z (reached b a)) →
      Right marks anchors → Right after anchors
  right_grows [] marks after h r = tt
  right_grows (a ∷ rest) marks after h r = (
    (λ z hz l. h a z (length rest + 2) (omega arith) (in_here a rest) hz r.0 l),
    right_grows rest marks after (λ c z m k hc. h c z m (omega arith) (in_there c a rest hc)) r.1,
  )

  own_in : (anchors marks : List ℕ) → Own marks anchors → (a : ℕ) → In a anchors → In a web
  own_in [] marks o a h = absurd (in_none a h)
  own_in (c ∷ rest) marks o a h = ⊎_elim (λ e. subst (λ z. In z web) (sym e) o.0.0) (λ k. own_in rest marks o.1 a k) (in_cons a c rest h)

  -- ---- one block hands on its mark
  module _ (x : ℕ) (hx : In x web) (anchors marks after : List ℕ) (raise : Raised (members f) b (mark_of marks x) (b x).parents marks after)
      (sunk : Sunk (suc (place x)) anchors marks) where
    -- its parents have earlier places, so from its own place on nothing changes
    later_same : (q : ℕ) → place x ≤ q → get_or after q 0 ≡ get_or marks q 0
    later_same q l =
        ⊎_elim (λ e. e)
        (λ d.
        let p = d.1.0 in
        let hp = d.1.1 in
        let e = d.1.2 in
        let k = place_before sound p (b x).round (sound.closed x p hx hp) (valid_earlier f b (b x) (sound.all_valid x hx) p hp) in
        let j = place_from sound x (b x).round hx (omega arith) in
        absurd (omega arith))
        (raise.only q)

    handed-on : Sunk (place x) anchors after
    handed-on = record {
      tabled = record {
        named = sunk.tabled.named;
        there = λ y h. let k = sunk.tabled.there y h in let g = raise.grows (place y) in omega arith;
        from = λ q l.
            ⊎_elim (λ e. sunk.tabled.from q (omega arith)) (λ d. (d.1.0, sound.closed x d.1.0 hx d.1.1, d.1.2)) (raise.only q);
      };
      room = λ y h. let k = sunk.room y h in let e = raise.size in omega arith;
      most = λ y h.
          ⊎_elim (λ e. let k = sunk.most y h in omega arith) (λ d. let k = sunk.most x hx in let e = d.0 in omega arith) (raise.only (place y));
      right = right_grows anchors marks after
          (λ a z m _ ha hz old l.
          ⊎_elim (λ e. old z hz (omega arith))
          (λ d.
          let e = d.0 in
          let same = place_alone sound d.1.0 z (sound.closed x d.1.0 hx d.1.1) hz d.1.2 in
          reached_parents sound a x z (own_in anchors marks sunk.own a ha) (old x hx (omega arith))
          (subst (λ w. In w (b x).parents) same d.1.1))
          (raise.only (place z)))
          sunk.right;
      own = own_grows anchors marks after raise.grows sunk.own;
      handed = λ y z hy l hz.
          let same = later_same (place y) l in
          let g = raise.grows (place z) in
          ⊎_elim
          (λ e.
          let d = ap (λ (q : ℕ). get_or marks q 0) e in
          let yx = place_alone sound y x hy hx e in
          let k = raise.there z (subst (λ w. In z (b w).parents) yx hz) (sunk.room z (sound.closed y z hy hz)) in
          omega arith)
          (λ n. let k = sunk.handed y z hy (omega arith) hz in omega arith)
          (same_or_not (place y) (place x));
    }

  hands_on : (s : ℕ) (anchors marks : List ℕ) → Sunk (suc s) anchors marks → Sunk s anchors (handed_on (members f) b names s marks)
  hands_on s anchors marks sunk =
      cond_cases (Sunk s anchors) (ltb 1 (get_or marks s 0)) (raised_all (members f) b (get_or marks s 0) (b (get_or names s 0)).parents marks) marks
      (λ t.
      let l = ltb→lt 1 (get_or marks s 0) t in
      let r = sunk.tabled.from s (omega arith) in
      let x = r.0 in
      subst (λ (q : ℕ). Sunk q anchors (raised_all (members f) b (get_or marks q 0) (b (get_or names q 0)).parents marks)) r.2
      (subst (λ w. Sunk (place x) anchors (raised_all (members f) b (mark_of marks x) (b w).parents marks)) (sym (sunk.tabled.named x r.1))
      (handed-on x r.1 anchors marks (raised_all (members f) b (mark_of marks x) (b x).parents marks)
      (raised_all_lem (members f) b (mark_of marks x) (b x).parents marks)
      (subst (λ (q : ℕ). Sunk (suc q) anchors marks) (sym r.2) sunk))))
      (λ t.
      let low = nltb→le 1 (get_or marks s 0) t in
      record {
        tabled = sunk.tabled;
        room = sunk.room;
        most = sunk.most;
        right = sunk.right;
        own = sunk.own;
        handed = λ y z hy l hz.
            ⊎_elim
            (λ e.
            let d = ap (λ (q : ℕ). get_or marks q 0) e in
            let k = sunk.tabled.there z (sound.closed y z hy hz) in
            omega arith)
            (λ n. sunk.handed y z hy (omega arith) hz)
            (same_or_not (place y) s);
      })

  -- a row does
  row_hands_on :
      (row k : ℕ) (anchors marks : List ℕ) → Sunk (row + k) anchors marks → Sunk row anchors (row_handed_on (members f) b names row k marks)
  unfolding row_handed_on
  row_hands_on row zero anchors marks sunk = let e : row + 0 ≡ row = omega arith in subst (λ (q : ℕ). Sunk q anchors marks) e sunk
  row_hands_on row (suc k) anchors marks sunk =
      let e : row + suc k ≡ suc (row + k) = omega arith in
      row_hands_on row k anchors (handed_on (members f) b names (row + k) marks)
      (hands_on (row + k) anchors marks (subst (λ (q : ℕ). Sunk q anchors marks) e sunk))

  -- ---- what an anchor reaches has its mark, as far down as marks were handed on
  pub reached_marked :
      (r a m : ℕ) (anchors marks : List ℕ) → Sunk (r * members f) anchors marks → In a web → m ≤ mark_of marks a →
      (z : ℕ) → In z (reached b a) → r ≤ suc (b z).round → m ≤ mark_of marks z
  reached_marked r a m anchors marks sunk ha la z hz =
      (reached_all b (λ w. In w web × (r ≤ suc (b w).round → m ≤ mark_of marks w))
      (λ v w h t.
      let hw = sound.closed v w h.0 t in
      let e = valid_earlier f b (b v) (sound.all_valid v h.0) w t in (
        hw,
        λ l.
            let p = h.1 (omega arith) in
            let q = sunk.handed v w h.0 (place_from sound v r h.0 (omega arith)) t in
            omega arith,
      ))
      a (ha, λ _. la) z hz).1

  -- ---- an anchor more
  module _ (p y : ℕ) (hy : In y web) (before : place y < p) (anchors marks : List ℕ) (high : mark_of marks y ≡ length anchors + 1)
      (sunk : Sunk p anchors marks) where
    abbrev after : List ℕ
    after = set marks (place y) (length anchors + 2)

    grown : Grown (place y) (length anchors + 2) marks after
    grown = set_grows (place y) (length anchors + 2) marks (omega arith)

    pub anchor-more : Sunk p (y ∷ anchors) after
    anchor-more = record {
      tabled = record {
        named = sunk.tabled.named;
        there = λ z h. let k = sunk.tabled.there z h in let g = grown.grows (place z) in omega arith;
        from = λ q l. ⊎_elim (λ e. sunk.tabled.from q (omega arith)) (λ d. (y, hy, sym d.1)) (grown.only q);
      };
      room = λ z h. let k = sunk.room z h in let e = grown.size in omega arith;
      most = λ z h. ⊎_elim (λ e. let k = sunk.most z h in omega arith) (λ d. let e = d.0 in omega arith) (grown.only (place z));
      right = (
        (λ z hz l.
            ⊎_elim (λ e. let k = sunk.most z hz in absurd (omega arith))
            (λ d. subst (λ w. In w (reached b y)) (sym (place_alone sound z y hz hy d.1)) (reached_self b y))
            (grown.only (place z))),
        right_grows anchors marks after
            (λ a z m few ha hz old l.
            ⊎_elim (λ e. old z hz (omega arith))
            (λ d. subst (λ w. In w (reached b a)) (sym (place_alone sound z y hz hy d.1)) (old y hy (omega arith)))
            (grown.only (place z)))
            sunk.right,
      );
      own = ((hy, grown.there (sunk.room y hy)), own_grows anchors marks after grown.grows sunk.own);
      handed = λ v z hv l hz.
          let g = grown.grows (place z) in
          ⊎_elim (λ e. let k = sunk.handed v z hv l hz in omega arith) (λ d. let e = d.1 in absurd (omega arith)) (grown.only (place v));
    }

  -- ---- going back
  -- the anchors up to x, by what is found as the leader's block of round 2 k
  onward : ℕ → ℕ → Sought → List ℕ
  onward k x Missing = anchors_to f b web k x
  onward k x (Found y) = cond (is_in y (reached b x)) (anchors_to f b web k y ++ (x ∷ [])) (anchors_to f b web k x)

  onward_is : (k x : ℕ) → anchors_to f b web (suc k) x ≡ onward k x (leader_block f b (2 * k) web)
  unfolding anchors_to onward
  onward_is k x = refl

  anchors_zero : (x : ℕ) → anchors_to f b web 0 x ≡ x ∷ []
  unfolding anchors_to
  anchors_zero x = refl

  next_anchor :
      (k x y : ℕ) → leader_block f b (2 * k) web ≡ Found y → In y (reached b x) → anchors_to f b web (suc k) x ≡ anchors_to f b web k y ++ (x ∷ [])
  unfolding onward
  next_anchor k x y e h = onward_is k x ∙ (ap (onward k x) e ∙ cond-then (is_in y (reached b x)) _ _ h)

  no_anchor :
      (k x : ℕ) → ((y : ℕ) → leader_block f b (2 * k) web ≡ Found y → In y (reached b x) → ⊥) → anchors_to f b web (suc k) x ≡ anchors_to f b web k x
  unfolding onward
  no_anchor k x n = onward_is k x ∙ go (leader_block f b (2 * k) web) refl
    where
      go : (m : Sought) → leader_block f b (2 * k) web ≡ m → onward k x m ≡ anchors_to f b web k x
      go Missing e = refl
      go (Found y) e = cond-else (is_in y (reached b x)) _ _ (not_T (is_in y (reached b x)) (n y e))

  -- at most one anchor in each even round
  pub anchors_few : (k x : ℕ) → length (anchors_to f b web k x) ≤ k + 1
  unfolding onward
  anchors_few zero x = let e = ap length (anchors_zero x) in omega arith
  anchors_few (suc k) x =
      let e = ap length (onward_is k x) in let l = go (leader_block f b (2 * k) web) (λ y. anchors_few k y) in omega arith
    where
      go : (m : Sought) → ((y : ℕ) → length (anchors_to f b web k y) ≤ k + 1) → length (onward k x m) ≤ suc k + 1
      go Missing ih = let l = ih x in omega arith
      go (Found y) ih =
          cond_cases (λ l. length l ≤ suc k + 1) (is_in y (reached b x)) (anchors_to f b web k y ++ (x ∷ [])) (anchors_to f b web k x)
          (λ _. let e = length-append (anchors_to f b web k y) (x ∷ []) in let l = ih y in omega arith)
          (λ _. let l = ih x in omega arith)

  -- with k even rounds left, `first` is the anchor found last, and `rest` those found before it; in the end they will be `all`
  record Back (p k : ℕ) (all : List ℕ) (t : Marked) : Type 0 where
    first : ℕ
    rest : List ℕ
    sunk : Sunk p (first ∷ rest) t.marks
    count : t.anchors ≡ suc (length rest)
    goes : anchors_to f b web k first ++ rest ≡ all

  leader_tested_lem :
      (k : ℕ) (all : List ℕ) (t : Marked) → Back ((2 * k + 1) * members f) (suc k) all t →
      Back ((2 * k + 1) * members f) k all (leader_tested (leader_place (members f) k) t)
  leader_tested_lem k all t back =
      let s = leader_place (members f) k in
      let p = (2 * k + 1) * members f in
      let marks = t.marks in
      let x = back.first in
      let rest = back.rest in
      let n = back.count in
      let sunk = back.sunk in
      cond_cases (Back p k all) (eqb (get_or marks s 0) (t.anchors + 1)) (record { marks = set marks s (t.anchors + 2); anchors = t.anchors + 1 }) t
      (λ h.
      let e = eqb→eq (get_or marks s 0) (t.anchors + 1) h in
      let l = leader_there sound sunk.tabled k (omega arith) in
      let y = l.0 in
      let r = l.5 in
      let high : mark_of marks y ≡ suc (length rest) + 1 = ap (λ (q : ℕ). get_or marks q 0) l.2 ∙ (e ∙ ap (λ (j : ℕ). j + 1) n) in
      let reach = sunk.right.0 y l.1 (omega arith) in
      let new = anchor-more p y l.1 (place_before sound y (2 * k + 1) l.1 (omega arith)) (x ∷ rest) marks high sunk in
      record {
        first = y;
        rest = x ∷ rest;
        sunk =
            subst (λ (j : ℕ). Sunk p (y ∷ x ∷ rest) (set marks s (j + 2))) (sym n)
            (subst (λ (q : ℕ). Sunk p (y ∷ x ∷ rest) (set marks q (suc (length rest) + 2))) l.2 new);
        count = omega arith;
        goes =
            sym (append_assoc (anchors_to f b web k y) (x ∷ []) rest)
            ∙ (ap (λ u. u ++ rest) (sym (next_anchor k x y l.4 reach)) ∙ back.goes);
      })
      (λ h.
      record {
        first = x;
        rest = rest;
        sunk = sunk;
        count = n;
        goes =
            ap (λ u. u ++ rest) (sym (no_anchor k x
            (λ y e reach.
            let l = leader_place_lem sound sunk.tabled k y e in
            let r = l.2 in
            let m = reached_marked (2 * k + 1) x (length rest + 2) (x ∷ rest) marks sunk sunk.own.0.0 sunk.own.0.1 y reach (omega arith) in
            let u = sunk.most y l.0 in
            let d = ap (λ (q : ℕ). get_or marks q 0) l.1 in
            T_not (eqb (get_or marks s 0) (t.anchors + 1)) h (eq→eqb (get_or marks s 0) (t.anchors + 1) (omega arith)))))
            ∙ back.goes;
      })

  row_back :
      (row p k : ℕ) (all : List ℕ) (t : Marked) → row + members f ≡ p → Back p k all t →
      Back row k all (record { marks = row_handed_on (members f) b names row (members f) t.marks; anchors = t.anchors })
  row_back row p k all t e back = record {
    first = back.first;
    rest = back.rest;
    sunk =
        row_hands_on row (members f) (back.first ∷ back.rest) t.marks
        (subst (λ (q : ℕ). Sunk q (back.first ∷ back.rest) t.marks) (sym e) back.sunk);
    count = back.count;
    goes = back.goes;
  }

  row_end : (r : ℕ) → r * members f + members f ≡ suc r * members f
  row_end r = let e = suc-mul r (members f) in omega arith

  -- the row of an even round, and of an odd one
  abbrev tested : ℕ → Marked → Marked
  tested r t = leader_tested (r * members f + r / 2 % members f) t

  even_row : (k : ℕ) (t : Marked) → one_row (members f) b names (2 * k) t ≡ record {
    marks = row_handed_on (members f) b names (2 * k * members f) (members f) (tested (2 * k) t).marks;
    anchors = (tested (2 * k) t).anchors;
  }
  even_row k t =
      let e : 2 * k % 2 ≡ 0 = omega arith in
      ap {B = Marked} (λ u. record { marks = row_handed_on (members f) b names (2 * k * members f) (members f) u.marks; anchors = u.anchors })
      (cond-then (eqb (2 * k % 2) 0) (tested (2 * k) t) t (eq→eqb (2 * k % 2) 0 e))

  odd_row : (k : ℕ) (t : Marked) → one_row (members f) b names (2 * k + 1) t ≡ record {
    marks = row_handed_on (members f) b names ((2 * k + 1) * members f) (members f) t.marks;
    anchors = t.anchors;
  }
  odd_row k t =
      let e : (2 * k + 1) % 2 ≡ 1 = omega arith in
      ap {B = Marked} (λ u. record { marks = row_handed_on (members f) b names ((2 * k + 1) * members f) (members f) u.marks; anchors = u.anchors })
      (cond-else (eqb ((2 * k + 1) % 2) 0) (tested (2 * k + 1) t) t (not_eqb ((2 * k + 1) % 2) 0 (λ z. omega arith)))

  leader_half : (k : ℕ) → leader_place (members f) k ≡ 2 * k * members f + 2 * k / 2 % members f
  leader_half k = let e : 2 * k / 2 ≡ k = omega arith in ap (λ (j : ℕ). 2 * k * members f + j % members f) (sym e)

  even_back :
      (k : ℕ) (all : List ℕ) (t : Marked) → Back (suc (2 * k) * members f) (suc k) all t →
      Back (2 * k * members f) k all (one_row (members f) b names (2 * k) t)
  even_back k all t back =
      let e : suc (2 * k) ≡ 2 * k + 1 = omega arith in
      let one = leader_tested_lem k all t (subst (λ (r : ℕ). Back (r * members f) (suc k) all t) e back) in
      let two = subst (λ (s : ℕ). Back ((2 * k + 1) * members f) k all (leader_tested s t)) (leader_half k) one in
      subst (Back (2 * k * members f) k all) (sym (even_row k t))
      (row_back (2 * k * members f) ((2 * k + 1) * members f) k all (tested (2 * k) t)
      (row_end (2 * k) ∙ ap (λ (r : ℕ). r * members f) e) two)

  odd_back :
      (k : ℕ) (all : List ℕ) (t : Marked) → Back (suc (2 * k + 1) * members f) (suc k) all t →
      Back ((2 * k + 1) * members f) (suc k) all (one_row (members f) b names (2 * k + 1) t)
  odd_back k all t back =
      subst (Back ((2 * k + 1) * members f) (suc k) all) (sym (odd_row k t))
      (row_back ((2 * k + 1) * members f) (suc (2 * k + 1) * members f) (suc k) all t (row_end (2 * k + 1)) back)

  -- the end: all anchors, and all blocks have handed on their marks
  pub record FoundAll (all : List ℕ) (t : Marked) : Type 0 where
    pub sunk : Sunk 0 all t.marks
    pub count : t.anchors ≡ length all

  -- with 2 k rows left
  went_back_lem : (k : ℕ) (all : List ℕ) (t : Marked) → Back (2 * k * members f) k all t → FoundAll all (went_back (members f) b names (2 * k) t)
  unfolding went_back
  went_back_lem zero all t back =
      let e : 2 * 0 * members f ≡ 0 = zero-mul (members f) in
      let d : back.first ∷ back.rest ≡ all = ap (λ u. u ++ back.rest) (sym (anchors_zero back.first)) ∙ back.goes in
      record {
        sunk = subst (λ u. Sunk 0 u t.marks) d (subst (λ (q : ℕ). Sunk q (back.first ∷ back.rest) t.marks) e back.sunk);
        count = back.count ∙ ap length d;
      }
  went_back_lem (suc k) all t back =
      let e : 2 * suc k ≡ suc (2 * k + 1) = omega arith in
      let d : 2 * k + 1 ≡ suc (2 * k) = omega arith in
      let odd = one_row (members f) b names (2 * k + 1) t in
      let one = odd_back k all t (subst (λ (r : ℕ). Back (r * members f) (suc k) all t) e back) in
      let two = even_back k all odd (subst (λ (r : ℕ). Back (r * members f) (suc k) all odd) d one) in
      subst (λ (r : ℕ). FoundAll all (went_back (members f) b names r t)) (sym e)
      (subst (λ (r : ℕ). FoundAll all (went_back (members f) b names r odd)) (sym d) (went_back_lem k all (one_row (members f) b names (2 * k) odd) two))

  -- From round 2 k, whose leader's block is the last anchor, one comes to all anchors.
  pub marked_from_lem :
      (k x : ℕ) (marks : List ℕ) → Tabled (members f) b web names marks → ((y : ℕ) → In y web → place y < length marks) →
      ((s : ℕ) → get_or marks s 0 ≤ 1) → leader_block f b (2 * k) web ≡ Found x →
      FoundAll (anchors_to f b web k x) (marked_from (members f) b k names marks)
  unfolding went_back
  marked_from_lem k x marks tabled room low e =
      let n = members f in
      let all = anchors_to f b web k x in
      let l = leader_place_lem sound tabled k x e in
      let r = l.2 in
      let t : Marked = record { marks = marks; anchors = 0 } in
      let p = suc (2 * k) * n in
      let one : mark_of marks x ≡ 1 = let a = tabled.there x l.0 in let c = low (place x) in omega arith in
      let none : Sunk p [] marks = record {
        tabled = tabled;
        room = room;
        most = λ y h. low (place y);
        right = tt;
        own = tt;
        handed = λ y z hy _ hz. let a = low (place y) in let c = tabled.there z (sound.closed y z hy hz) in omega arith;
      } in
      let first = anchor-more p x l.0 (place_before sound x (suc (2 * k)) l.0 (omega arith)) [] marks one none in
      let s = 2 * k * n + 2 * k / 2 % n in
      let at : place x ≡ s = l.1 ∙ leader_half k in
      let u : Marked = record { marks = set marks s 2; anchors = 1 } in
      let hit : tested (2 * k) t ≡ u =
      cond-then (eqb (get_or marks s 0) 1) u t (eq→eqb (get_or marks s 0) 1 (ap (λ (q : ℕ). get_or marks q 0) (sym at) ∙ one)) in
      let start : Back p k all u = record {
        first = x;
        rest = [];
        sunk = subst (λ (q : ℕ). Sunk p (x ∷ []) (set marks q 2)) at first;
        count = refl;
        goes = append-nil all;
      } in
      let row = row_back (2 * k * n) p k all u (row_end (2 * k)) start in
      let same =
      even_row k t
      ∙ ap {B = Marked} (λ v. record { marks = row_handed_on n b names (2 * k * n) n v.marks; anchors = v.anchors }) hit in
      let d : 2 * k + 1 ≡ suc (2 * k) = omega arith in
      subst (λ (j : ℕ). FoundAll all (went_back n b names j t)) (sym d)
      (went_back_lem k all (one_row n b names (2 * k) t) (subst (Back (2 * k * n) k all) (sym same) row))
