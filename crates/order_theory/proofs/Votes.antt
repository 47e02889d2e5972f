-- The leader's block and its votes, found by their places, are those of the definition; so is the last anchor. Assumes nothing.
use Rattle.std.proofs.Common.{◌≡◌, ℕ, zero, suc, ◌+◌, ◌*◌, ◌/◌, ◌%◌, ◌<◌, ◌≤◌, Bool, true, false, cond, ◌&&◌, T, eqb, ltb, leb, List, [], ◌∷◌, length, get_or, Some, None, Option, sym, refl, ap, ◌∙◌, subst, ⊎_elim, mod-lt, add-mul, one-mul, arith, le→leb, eqb→eq, ltb→lt, lt→ltb, leb→le, T_not}
use lib.Dec.{not_T}
use Rattle.model.specs.Names.{is_in, distinct}
use Rattle.model.specs.Thresholds.{members, needed_votes}
use Rattle.model.specs.Blocks.{Book}
use Rattle.model.specs.Order.{Sought, Missing, Found, leader, leader_block, votes_for, has_votes, last_voted}
use Rattle.model.proofs.Tools.{and_left, and_right, and_both, is_true, is_false, same_test, eq→eqb, same_or_not}
use Rattle.model.proofs.Tools.{cond_cases, cond-from, cond-under}
use Rattle.model.proofs.Lists.{In, in_none, in_here, in_there, in_cons}
use Rattle.model.proofs.Lists.{distinct_none, distinct_cons, distinct_head, distinct_tail, distinct-different, different_within}
use Rattle.model.proofs.Thresholds.{today, member_some}
use Rattle.model.proofs.Validity.{valid_author}
use Rattle.model.proofs.Webs.{SoundWeb}
use Rattle.model.proofs.TwoWebs.{leader_block_is, leader_block_found}
use Rattle.order_theory.specs.Tables.{place_of, votes_at, votes_in, row_of, leader_place, voted_at, last_voted_at}
use Rattle.order_theory.proofs.Places.{place_is, Tabled, less_or_not}

-- ---- the blocks of a row that have x as a parent
row_voters : Book → ℕ → List ℕ → List ℕ → ℕ → ℕ → List ℕ
row_voters b x names marks row zero = []
row_voters b x names marks row (suc k) =
    cond (votes_at b x names marks (row + k)) (get_or names (row + k) 0 ∷ row_voters b x names marks row k) (row_voters b x names marks row k)

row_count : (b : Book) (x : ℕ) (names marks : List ℕ) (row k : ℕ) → length (row_voters b x names marks row k) ≡ votes_in b x names marks row k
unfolding row_voters votes_in
row_count b x names marks row zero = refl
row_count b x names marks row (suc k) =
    let rest = row_voters b x names marks row k in
    cond-under length (votes_at b x names marks (row + k)) (get_or names (row + k) 0 ∷ rest) rest
    ∙ ap (λ (n : ℕ). cond (votes_at b x names marks (row + k)) (suc n) n) (row_count b x names marks row k)

-- ---- the blocks of a list that vote for x
abbrev votes : Book → ℕ → ℕ → Bool
votes b x y = eqb (b y).round ((b x).round + 1) && is_in x (b y).parents

web_voters : Book → ℕ → List ℕ → List ℕ
web_voters b x [] = []
web_voters b x (y ∷ ys) = cond (votes b x y) (y ∷ web_voters b x ys) (web_voters b x ys)

web_count : (b : Book) (x : ℕ) (web : List ℕ) → length (web_voters b x web) ≡ votes_for b x web
unfolding web_voters votes_for
web_count b x [] = refl
web_count b x (y ∷ ys) =
    cond-under length (votes b x y) (y ∷ web_voters b x ys) (web_voters b x ys)
    ∙ ap (λ (n : ℕ). cond (votes b x y) (suc n) n) (web_count b x ys)

-- y votes for x
abbrev Vote : Book → ℕ → ℕ → Type 0
Vote b x y = ((b y).round ≡ (b x).round + 1) × In x (b y).parents

in_web_voters : (b : Book) (x : ℕ) (ys : List ℕ) (y : ℕ) → In y (web_voters b x ys) → In y ys × Vote b x y
unfolding web_voters
in_web_voters b x [] y t = absurd (in_none y t)
in_web_voters b x (z ∷ ys) y t =
    let p = eqb (b z).round ((b x).round + 1) in
    let q = is_in x (b z).parents in
    let later : In y (web_voters b x ys) → In y (z ∷ ys) × Vote b x y = λ h. let s = in_web_voters b x ys y h in (in_there y z ys s.0, s.1) in
    ⊎_elim
    (λ h. ⊎_elim
    (λ e. subst (λ w. In w (z ∷ ys) × Vote b x w) (sym e)
    (in_here z ys, (eqb→eq (b z).round ((b x).round + 1) (and_left p q h.0), and_right p q h.0)))
    later (in_cons y z (web_voters b x ys) h.1))
    (λ h. later h.1)
    (cond-from (In y) (votes b x z) (z ∷ web_voters b x ys) (web_voters b x ys) t)

web_voters_in : (b : Book) (x : ℕ) (ys : List ℕ) (y : ℕ) → In y ys → Vote b x y → In y (web_voters b x ys)
unfolding web_voters
web_voters_in b x [] y h v = absurd (in_none y h)
web_voters_in b x (z ∷ ys) y h v =
    cond_cases (In y) (votes b x z) (z ∷ web_voters b x ys) (web_voters b x ys)
    (λ _. ⊎_elim (λ e. subst (λ w. In y (w ∷ web_voters b x ys)) e (in_here y (web_voters b x ys)))
    (λ k. in_there y z (web_voters b x ys) (web_voters_in b x ys y k v))
    (in_cons y z ys h))
    (λ n. ⊎_elim
    (λ e. absurd (T_not (votes b x z) n (subst (λ w. T (votes b x w)) e
    (and_both (eqb (b y).round ((b x).round + 1)) (is_in x (b y).parents) (eq→eqb (b y).round ((b x).round + 1) v.0) v.1))))
    (λ k. web_voters_in b x ys y k v)
    (in_cons y z ys h))

web_voters_distinct : (b : Book) (x : ℕ) (ys : List ℕ) → T (distinct ys) → T (distinct (web_voters b x ys))
unfolding web_voters
web_voters_distinct b x [] d = distinct_none
web_voters_distinct b x (y ∷ ys) d =
    let rest = web_voters_distinct b x ys (distinct_tail y ys d) in
    cond_cases (λ l. T (distinct l)) (votes b x y) (y ∷ web_voters b x ys) (web_voters b x ys)
    (λ _. distinct_cons y (web_voters b x ys) (λ t. distinct_head y ys d (in_web_voters b x ys y t).0) rest)
    (λ _. rest)

module _ {f : ℕ} {b : Book} {web : List ℕ} (sound : SoundWeb f b web) {names marks : List ℕ} (tabled : Tabled (members f) b web names marks) where
  -- the block at a place with a mark
  at_place : (s : ℕ) → 0 < get_or marks s 0 → (y : ℕ) × In y web × (place_of (members f) b y ≡ s) × (get_or names s 0 ≡ y)
  at_place s h =
      let r = tabled.from s h in
      (r.0, r.1, r.2, ap (λ (q : ℕ). get_or names q 0) (sym r.2) ∙ tabled.named r.0 r.1)

  module _ (x : ℕ) where
    abbrev next_row : ℕ
    next_row = ((b x).round + 1) * members f

    -- what votes at a place of the next row
    vote-at :
        (k : ℕ) → k < members f → T (votes_at b x names marks (next_row + k)) →
        In (get_or names (next_row + k) 0) web × Vote b x (get_or names (next_row + k) 0)
        × (place_of (members f) b (get_or names (next_row + k) 0) ≡ next_row + k)
    vote-at k l t =
        let s = next_row + k in
        let p = ltb 0 (get_or marks s 0) in
        let q = is_in x (b (get_or names s 0)).parents in
        let r = at_place s (ltb→lt 0 (get_or marks s 0) (and_left p q t)) in
        let e = sym r.3 in (
          subst (λ w. In w web) e r.1,
          (subst (λ w. (b w).round ≡ (b x).round + 1) e (place_is sound r.0 ((b x).round + 1) k r.1 r.2 l).0, and_right p q t),
          subst (λ w. place_of (members f) b w ≡ s) e r.2,
        )

    in-row-voters :
        (k y : ℕ) → k ≤ members f → In y (row_voters b x names marks next_row k) →
        In y web × Vote b x y × (place_of (members f) b y < next_row + k)
    unfolding row_voters
    in-row-voters zero y l t = absurd (in_none y t)
    in-row-voters (suc k) y l t =
        let z = get_or names (next_row + k) 0 in
        let rest = row_voters b x names marks next_row k in
        let later : In y rest → In y web × Vote b x y × (place_of (members f) b y < next_row + suc k) =
        λ h. let s = in-row-voters k y (omega arith) h in let m = s.2 in (s.0, s.1, omega arith) in
        ⊎_elim
        (λ h. ⊎_elim
        (λ e.
        let v = vote-at k (omega arith) h.0 in
        let m = v.2 in
        subst (λ w. In w web × Vote b x w × (place_of (members f) b w < next_row + suc k)) (sym e) (v.0, v.1, omega arith))
        later (in_cons y z rest h.1))
        (λ h. later h.1)
        (cond-from (In y) (votes_at b x names marks (next_row + k)) (z ∷ rest) rest t)

    row-voters-in : (k y : ℕ) → In y web → Vote b x y → (b y).author < k → In y (row_voters b x names marks next_row k)
    unfolding row_voters
    row-voters-in zero y h v l = absurd (omega arith)
    row-voters-in (suc k) y h v l =
        let s = next_row + k in
        let z = get_or names s 0 in
        let rest = row_voters b x names marks next_row k in
        let earlier : ((b y).author ≡ k → ⊥) → In y rest = λ n. row-voters-in k y h v (omega arith) in
        let place : (b y).author ≡ k → place_of (members f) b y ≡ s =
        λ e. let d = ap (λ (r : ℕ). r * members f) v.0 in omega arith in
        let name : (b y).author ≡ k → z ≡ y = λ e. ap (λ (q : ℕ). get_or names q 0) (sym (place e)) ∙ tabled.named y h in
        cond_cases (In y) (votes_at b x names marks s) (z ∷ rest) rest
        (λ _. ⊎_elim (λ e. subst (λ w. In y (w ∷ rest)) (sym (name e)) (in_here y rest)) (λ n. in_there y z rest (earlier n))
        (same_or_not (b y).author k))
        (λ n. ⊎_elim
        (λ e. absurd (T_not (votes_at b x names marks s) n
        (and_both (ltb 0 (get_or marks s 0)) (is_in x (b z).parents)
        (lt→ltb 0 (get_or marks s 0) (subst (λ (q : ℕ). 0 < get_or marks q 0) (place e) (tabled.there y h)))
        (subst (λ w. In x (b w).parents) (sym (name e)) v.1))))
        earlier (same_or_not (b y).author k))

    row-voters-distinct : (k : ℕ) → k ≤ members f → T (distinct (row_voters b x names marks next_row k))
    unfolding row_voters
    row-voters-distinct zero l = distinct_none
    row-voters-distinct (suc k) l =
        let z = get_or names (next_row + k) 0 in
        let rest = row_voters b x names marks next_row k in
        let d = row-voters-distinct k (omega arith) in
        cond_cases (λ l. T (distinct l)) (votes_at b x names marks (next_row + k)) (z ∷ rest) rest
        (λ t. distinct_cons z rest (λ h. let m = (in-row-voters k z (omega arith) h).2 in let e = (vote-at k (omega arith) t).2 in omega arith) d)
        (λ _. d)

    -- the votes that stand in the next row are all
    pub votes-same : votes_in b x names marks next_row (members f) ≡ votes_for b x web
    votes-same =
        let rs = row_voters b x names marks next_row (members f) in
        let ws = web_voters b x web in
        let p =
        different_within rs ws (λ y t. let s = in-row-voters (members f) y (omega arith) t in web_voters_in b x web y s.0 s.1) in
        let q =
        different_within ws rs
        (λ y t. let s = in_web_voters b x web y t in row-voters-in (members f) y s.0 s.1 (valid_author f b (b y) (sound.all_valid y s.0))) in
        let a = distinct-different rs (row-voters-distinct (members f) (omega arith)) in
        let c = distinct-different ws (web_voters_distinct b x web sound.once) in
        let d = row_count b x names marks next_row (members f) in
        let e = web_count b x web in
        omega arith

  -- ---- the leader's block
  half : (k : ℕ) → 2 * k / 2 ≡ k
  half k = omega arith

  leader_below : (k : ℕ) → k % members f < members f
  leader_below k = mod-lt k (member_some (today f))

  leader_is : (k : ℕ) → leader f (2 * k) ≡ k % members f
  leader_is k = ap (λ (r : ℕ). r % members f) (half k)

  -- where a mark stands at the leader's place, the block there is the leader's
  pub leader_there :
      (k : ℕ) → 0 < get_or marks (leader_place (members f) k) 0 →
      (y : ℕ) × In y web × (place_of (members f) b y ≡ leader_place (members f) k) × (get_or names (leader_place (members f) k) 0 ≡ y)
      × (leader_block f b (2 * k) web ≡ Found y) × ((b y).round ≡ 2 * k)
  leader_there k h =
      let r = at_place (leader_place (members f) k) h in
      let s = place_is sound r.0 (2 * k) (k % members f) r.1 r.2 (leader_below k) in
      (r.0, r.1, r.2, r.3, leader_block_found sound (2 * k) r.0 r.1 s.0 (s.1 ∙ sym (leader_is k)), s.0)

  -- the leader's block stands at the leader's place
  pub leader_place_lem :
      (k y : ℕ) → leader_block f b (2 * k) web ≡ Found y →
      In y web × (place_of (members f) b y ≡ leader_place (members f) k) × ((b y).round ≡ 2 * k)
  leader_place_lem k y e =
      let l = leader_block_is f b (2 * k) web y e in
      let p = ap (λ (r : ℕ). r * members f) l.1 in
      let q = l.2 ∙ leader_is k in
      (l.0, omega arith, l.1)

  -- ---- the last anchor
  row_after : (x k : ℕ) → (b x).round ≡ 2 * k → ((b x).round + 1) * members f ≡ row_of (members f) k + members f
  row_after x k e =
      let p = add-mul (b x).round 1 (members f) in
      let q = one-mul (members f) in
      let r = ap (λ (m : ℕ). m * members f) e in
      omega arith

  enough : (v : ℕ) → ltb f v ≡ leb (needed_votes f) v
  unfolding needed_votes
  enough v =
      same_test (ltb f v) (leb (f + 1) v) (λ t. let h = ltb→lt f v t in le→leb (f + 1) v (omega arith))
      (λ t. let h = leb→le (f + 1) v t in lt→ltb f v (omega arith))

  voted_same : (k : ℕ) → voted_at f (members f) b names marks k ≡ has_votes f b web (leader_block f b (2 * k) web)
  voted_same k = ⊎_elim there none (less_or_not 0 (get_or marks (leader_place (members f) k) 0))
    where
      s : ℕ
      s = leader_place (members f) k

      count : ℕ → ℕ
      count x = votes_in b x names marks (row_of (members f) k + members f) (members f)

      Wanted : Type 0
      Wanted = voted_at f (members f) b names marks k ≡ has_votes f b web (leader_block f b (2 * k) web)

      there : 0 < get_or marks s 0 → Wanted
      there h =
          let r = leader_there k h in
          let y = r.0 in
          let c : count y ≡ votes_for b y web =
          ap (λ (q : ℕ). votes_in b y names marks q (members f)) (sym (row_after y k r.5)) ∙ votes-same y in
          ap (λ c. c && ltb f (count (get_or names s 0))) (is_true (ltb 0 (get_or marks s 0)) (lt→ltb 0 (get_or marks s 0) h))
          ∙ (ap (λ w. ltb f (count w)) r.3 ∙ (ap (ltb f) c ∙ (enough (votes_for b y web) ∙ ap (has_votes f b web) (sym r.4))))

      none : get_or marks s 0 ≤ 0 → Wanted
      none h =
          ap (λ c. c && ltb f (count (get_or names s 0)))
          (is_false (ltb 0 (get_or marks s 0)) (not_T (ltb 0 (get_or marks s 0)) (λ t. let l = ltb→lt 0 (get_or marks s 0) t in omega arith)))
          ∙ missing (leader_block f b (2 * k) web) refl
        where
          missing : (m : Sought) → leader_block f b (2 * k) web ≡ m → false ≡ has_votes f b web m
          missing Missing e = refl
          missing (Found y) e =
              let p = leader_place_lem k y e in
              let l = subst (λ (q : ℕ). 0 < get_or marks q 0) p.1 (tabled.there y p.0) in
              absurd (omega arith)

  -- what is found among the places is what the definition finds
  abbrev pub Matches : Option ℕ → Sought → Type 0
  Matches None Missing = Unit {0}
  Matches None (Found x) = ⊥
  Matches (Some k) Missing = ⊥
  Matches (Some k) (Found x) = leader_block f b (2 * k) web ≡ Found x

  pub last_same : (k : ℕ) → Matches (last_voted_at f (members f) b names marks k) (last_voted f b web k)
  unfolding last_voted_at last_voted
  last_same zero = tt
  last_same (suc k) =
      let c = voted_at f (members f) b names marks k in
      let o = last_voted_at f (members f) b names marks k in
      subst (λ d. Matches (cond c (Some k) o) (cond d (leader_block f b (2 * k) web) (last_voted f b web k))) (voted_same k)
      (both c refl (last_same k))
    where
      l : Sought
      l = leader_block f b (2 * k) web

      found : (m : Sought) → l ≡ m → T (has_votes f b web m) → Matches (Some k) m
      found Missing e t = absurd t
      found (Found x) e t = e

      both : (c : Bool) → voted_at f (members f) b names marks k ≡ c → Matches (last_voted_at f (members f) b names marks k) (last_voted f b web k) →
          Matches (cond c (Some k) (last_voted_at f (members f) b names marks k)) (cond c l (last_voted f b web k))
      both true e rest = found l refl (subst T (sym (sym (voted_same k) ∙ e)) tt)
      both false e rest = rest
