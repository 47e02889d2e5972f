-- Two compatible webs have one order: of their orders one is a beginning of the other, and a larger web's order is a longer one. Speaks of webs
-- alone, not of worlds. Assumes nothing.
use mathlib.Core.Path.{◌≡◌, refl, ap, sym, subst, ◌∙◌}
use mathlib.Core.Bool.{Bool, cond, ◌&&◌}
use mathlib.Core.List.{List, [], ◌∷◌, ◌++◌, append-nil, append_assoc}
use mathlib.Core.Logic.{◌⊎◌, inl, inr, ⊎_elim}
use Prim.Native.Nat.{ℕ, zero, suc, ◌+◌, ◌*◌, ◌/◌, ◌≤◌, ◌<◌}
use native.Mathlib.Omega.{arith}
use lib.Dec.{T, eqb, ltb, leb, eqb→eq, T_not, not_T, ltb→lt, leb→le, le→leb, nltb→le, nleb→lt}
use lib.ListN.{length}
use Rattle.model.specs.Names.{is_in, different, distinct, without}
use Rattle.model.specs.Thresholds.{members, needed_votes}
use Rattle.model.specs.Blocks.{Book, authors_at}
use Rattle.model.specs.Reach.{reached}
use Rattle.model.specs.Order.{Sought, Missing, Found, leader, leader_block, votes_for, has_votes, last_voted, last_round, last_anchor}
use Rattle.model.specs.Order.{anchors_to, anchors_from, anchors_of, sorted, listed, order}
use Rattle.model.specs.Promise.{Begins}
use Rattle.model.proofs.Tools.{and_left, and_right, and_both, cond_cases, cond-from, cond-then, cond-else, cond-under, eq→eqb, decided}
use Rattle.model.proofs.Lists.{In, Within, in_none, in_here, in_there, in_cons, in_single, in_or_not}
use Rattle.model.proofs.Lists.{in_append, in_append_left, in_append_right}
use Rattle.model.proofs.Lists.{distinct_none, distinct_cons, distinct_head, distinct_tail, distinct-different, different_within, different≤length}
use Rattle.model.proofs.Thresholds.{today, quorum_meets_votes}
use Rattle.model.proofs.Validity.{authors_in, valid_author}
use Rattle.model.proofs.Webs.{SoundWeb, Compatible, itself, swapped}
use Rattle.model.proofs.Reach.{reached_within, reached_parents, reached-quorum}

-- ---- the leader's block of a round
-- x is the leader's block of round r
abbrev leads : ℕ → Book → ℕ → ℕ → Bool
leads f b r x = eqb (b x).round r && eqb (b x).author (leader f r)

-- what is sought is missing, or is in the web and the leader's block of round r
abbrev Leads : ℕ → Book → ℕ → List ℕ → Sought → Type 0
Leads f b r web Missing = Unit {0}
Leads f b r web (Found x) = In x web × ((b x).round ≡ r) × ((b x).author ≡ leader f r)

leads_there : (f : ℕ) (b : Book) (r y : ℕ) (web : List ℕ) (m : Sought) → Leads f b r web m → Leads f b r (y ∷ web) m
leads_there f b r y web Missing h = tt
leads_there f b r y web (Found x) h = (in_there x y web h.0, h.1, h.2)

leader_block_leads : (f : ℕ) (b : Book) (r : ℕ) (web : List ℕ) → Leads f b r web (leader_block f b r web)
unfolding leader_block
leader_block_leads f b r [] = tt
leader_block_leads f b r (x ∷ xs) =
    let p = eqb (b x).round r in
    let q = eqb (b x).author (leader f r) in
    cond_cases (Leads f b r (x ∷ xs)) (leads f b r x) (Found x) (leader_block f b r xs)
    (λ t. (in_here x xs, eqb→eq (b x).round r (and_left p q t), eqb→eq (b x).author (leader f r) (and_right p q t)))
    (λ _. leads_there f b r x xs (leader_block f b r xs) (leader_block_leads f b r xs))

-- the leader's block of a round, as it is found in a web
pub leader_block_is :
    (f : ℕ) (b : Book) (r : ℕ) (web : List ℕ) (x : ℕ) → leader_block f b r web ≡ Found x → In x web × ((b x).round ≡ r) × ((b x).author ≡ leader f r)
leader_block_is f b r web x e = subst (Leads f b r web) e (leader_block_leads f b r web)

abbrev IsFound : Sought → Type 0
IsFound Missing = ⊥
IsFound (Found x) = Unit {0}

-- a leader's block in the web isn't missed
leader_block_some :
    (f : ℕ) (b : Book) (r : ℕ) (web : List ℕ) (x : ℕ) → In x web → (b x).round ≡ r → (b x).author ≡ leader f r → IsFound (leader_block f b r web)
unfolding leader_block
leader_block_some f b r [] x h e a = absurd (in_none x h)
leader_block_some f b r (y ∷ ys) x h e a =
    cond_cases IsFound (leads f b r y) (Found y) (leader_block f b r ys) (λ _. tt)
    (λ n. ⊎_elim
    (λ p. absurd (T_not (leads f b r y) n (subst (λ z. T (leads f b r z)) p
    (and_both (eqb (b x).round r) (eqb (b x).author (leader f r)) (eq→eqb (b x).round r e) (eq→eqb (b x).author (leader f r) a)))))
    (λ k. leader_block_some f b r ys x k e a)
    (in_cons x y ys h))

pub leader_block_found :
    {f : ℕ} {b : Book} {web : List ℕ} → SoundWeb f b web → (r x : ℕ) → In x web → (b x).round ≡ r → (b x).author ≡ leader f r →
    leader_block f b r web ≡ Found x
leader_block_found {f} {b} {web} s r x h e a = go (leader_block f b r web) refl
  where
    go : (m : Sought) → leader_block f b r web ≡ m → leader_block f b r web ≡ Found x
    go Missing p = absurd (subst IsFound p (leader_block_some f b r web x h e a))
    go (Found y) p =
        let l = leader_block_is f b r web y p in
        p ∙ ap Found (s.alone y x l.0 h (l.2 ∙ sym a) (l.1 ∙ sym e))

-- ---- votes
-- y votes for x
abbrev votes : Book → ℕ → ℕ → Bool
votes b x y = eqb (b y).round ((b x).round + 1) && is_in x (b y).parents

-- the authors of the votes for x
voters : Book → ℕ → List ℕ → List ℕ
voters b x [] = []
voters b x (y ∷ ys) = cond (votes b x y) ((b y).author ∷ voters b x ys) (voters b x ys)

voters_count : (b : Book) (x : ℕ) (web : List ℕ) → length (voters b x web) ≡ votes_for b x web
unfolding voters votes_for
voters_count b x [] = refl
voters_count b x (y ∷ ys) =
    let e = voters_count b x ys in
    cond-under length (votes b x y) ((b y).author ∷ voters b x ys) (voters b x ys)
    ∙ ap (λ (n : ℕ). cond (votes b x y) (suc n) n) e

-- a has a block in the web that votes for x
abbrev Voter : Book → ℕ → List ℕ → ℕ → Type 0
Voter b x web a = (y : ℕ) × In y web × ((b y).author ≡ a) × ((b y).round ≡ (b x).round + 1) × In x (b y).parents

in_voters : (b : Book) (x : ℕ) (web : List ℕ) (a : ℕ) → In a (voters b x web) → Voter b x web a
unfolding voters
in_voters b x [] a t = absurd (in_none a t)
in_voters b x (y ∷ ys) a t =
    let p = eqb (b y).round ((b x).round + 1) in
    let q = is_in x (b y).parents in
    let later : In a (voters b x ys) → Voter b x (y ∷ ys) a =
    λ h. let s = in_voters b x ys a h in (s.0, in_there s.0 y ys s.1, s.2, s.3, s.4) in
    ⊎_elim
    (λ h. ⊎_elim (λ e. (y, in_here y ys, sym e, eqb→eq (b y).round ((b x).round + 1) (and_left p q h.0), and_right p q h.0)) later
    (in_cons a (b y).author (voters b x ys) h.1))
    (λ h. later h.1)
    (cond-from (In a) (votes b x y) ((b y).author ∷ voters b x ys) (voters b x ys) t)

voters_in : (b : Book) (x : ℕ) (web : List ℕ) (a : ℕ) → Voter b x web a → In a (voters b x web)
unfolding voters
voters_in b x [] a v = absurd (in_none v.0 v.1)
voters_in b x (y ∷ ys) a v =
    let z = v.0 in
    cond_cases (In a) (votes b x y) ((b y).author ∷ voters b x ys) (voters b x ys)
    (λ _. ⊎_elim (λ e. subst (λ w. In w ((b y).author ∷ voters b x ys)) (ap (λ w. (b w).author) (sym e) ∙ v.2) (in_here (b y).author (voters b x ys)))
    (λ k. in_there a (b y).author (voters b x ys) (voters_in b x ys a (z, k, v.2, v.3, v.4)))
    (in_cons z y ys v.1))
    (λ n. ⊎_elim
    (λ e. absurd (T_not (votes b x y) n (subst (λ w. T (votes b x w)) e
    (and_both (eqb (b z).round ((b x).round + 1)) (is_in x (b z).parents) (eq→eqb (b z).round ((b x).round + 1) v.3) v.4))))
    (λ k. voters_in b x ys a (z, k, v.2, v.3, v.4))
    (in_cons z y ys v.1))

-- if each author of the list has a block of the next round in the web with x as a parent, x has as many votes as the list has authors
pub votes_of_authors :
    (b : Book) (x : ℕ) (web authors : List ℕ) →
    ((a : ℕ) → In a authors → (y : ℕ) × In y web × ((b y).author ≡ a) × ((b y).round ≡ (b x).round + 1) × In x (b y).parents) →
    different authors ≤ votes_for b x web
votes_of_authors b x web authors h =
    let l = different_within authors (voters b x web) (λ a t. voters_in b x web a (h a t)) in
    let m = different≤length (voters b x web) in
    let e = voters_count b x web in
    omega arith

-- in a sound web no author votes twice
voters_distinct :
    {f : ℕ} {b : Book} {web : List ℕ} → SoundWeb f b web → (x : ℕ) (ys : List ℕ) → Within ys web → T (distinct ys) → T (distinct (voters b x ys))
unfolding voters
voters_distinct s x [] h d = distinct_none
voters_distinct {f} {b} {web} s x (y ∷ ys) h d =
    let rest = voters_distinct s x ys (λ z t. h z (in_there z y ys t)) (distinct_tail y ys d) in
    cond_cases (λ l. T (distinct l)) (votes b x y) ((b y).author ∷ voters b x ys) (voters b x ys)
    (λ t. distinct_cons (b y).author (voters b x ys)
    (λ k.
    let v = in_voters b x ys (b y).author k in
    let e = eqb→eq (b y).round ((b x).round + 1) (and_left (eqb (b y).round ((b x).round + 1)) (is_in x (b y).parents) t) in
    distinct_head y ys d
    (subst (λ z. In z ys) (s.alone v.0 y (h v.0 (in_there v.0 y ys v.1)) (h y (in_here y ys)) v.2 (v.3 ∙ sym e)) v.1))
    rest)
    (λ _. rest)

-- so there are as many votes as different authors of votes
votes_by_authors : {f : ℕ} {b : Book} {web : List ℕ} → SoundWeb f b web → (x : ℕ) → votes_for b x web ≡ different (voters b x web)
votes_by_authors {f} {b} {web} s x =
    sym (distinct-different (voters b x web) (voters_distinct s x web (λ z t. t) s.once) ∙ voters_count b x web)

-- a larger web has no fewer votes
votes_grow : {f : ℕ} {b : Book} {web : List ℕ} → SoundWeb f b web → (web' : List ℕ) → Within web web' → (x : ℕ) → votes_for b x web ≤ votes_for b x web'
votes_grow {f} {b} {web} s web' h x =
    let e = votes_by_authors s x in
    let l =
    votes_of_authors b x web' (voters b x web)
    (λ a t. let v = in_voters b x web a t in (v.0, h v.0 v.1, v.2, v.3, v.4)) in
    omega arith

-- what has the votes in one web is reached from every block, two rounds later or more, of a web that goes with it
voted_reached :
    {f : ℕ} {b : Book} {web web' : List ℕ} → Compatible f b web web' → (x y : ℕ) → needed_votes f ≤ votes_for b x web → In y web' →
    (b x).round + 2 ≤ (b y).round → In x (reached b y)
voted_reached {f} {b} {web} {web'} c x y v hy l =
    let r : ℕ = (b x).round + 1 in
    let q = reached-quorum c.there y r hy (omega arith) in
    let e = votes_by_authors c.here x in
    let m =
    quorum_meets_votes (today f) (authors_at f b r (reached b y)) (voters b x web)
    (λ a t. (authors_in f b r (reached b y) a t).4)
    (λ a t. let u = in_voters b x web a t in subst (λ z. z < members f) u.2 (valid_author f b (b u.0) (c.here.all_valid u.0 u.1)))
    q (omega arith) in
    let s = authors_in f b r (reached b y) m.0 m.1 in
    let u = in_voters b x web m.0 m.2 in
    let same =
    c.one u.0 s.0 u.1 (reached_within b web' c.there.closed y hy s.0 s.1) (u.2 ∙ sym s.3) (u.3 ∙ sym s.2) in
    reached_parents c.there y s.0 x hy s.1 (subst (λ z. In x (b z).parents) same u.4)

-- ---- beginnings
begins_same : (xs ys : List ℕ) → xs ≡ ys → Begins xs ys
begins_same xs ys e = ([], append-nil xs ∙ e)

begins_then : (xs ys zs : List ℕ) → Begins xs ys → Begins ys zs → Begins xs zs
begins_then xs ys zs p q = (p.0 ++ q.0, sym (append_assoc xs p.0 q.0) ∙ (ap (λ l. l ++ q.0) p.1 ∙ q.1))

-- ---- the walk back from an anchor
-- going back from x, the leader's block of round 2 k is the next anchor: it is in the web and x reaches it
abbrev NextAnchor : ℕ → Book → List ℕ → ℕ → ℕ → Type 0
NextAnchor f b web k x = (y : ℕ) × (leader_block f b (2 * k) web ≡ Found y) × In y (reached b x)

next_or_none : (f : ℕ) (b : Book) (web : List ℕ) (k x : ℕ) → NextAnchor f b web k x ⊎ (NextAnchor f b web k x → ⊥)
next_or_none f b web k x = go (leader_block f b (2 * k) web) refl
  where
    name : Sought → ℕ
    name Missing = 0
    name (Found y) = y

    go : (m : Sought) → leader_block f b (2 * k) web ≡ m → NextAnchor f b web k x ⊎ (NextAnchor f b web k x → ⊥)
    go Missing e = inr (λ n. subst IsFound (sym n.1 ∙ e) tt)
    go (Found y) e =
        ⊎_elim (λ h. inl (y, e, h)) (λ n. inr (λ p. n (subst (λ z. In z (reached b x)) (ap name (sym p.1 ∙ e)) p.2)))
        (in_or_not y (reached b x))

-- the anchors up to x, by what is found as the leader's block of round 2 k
onward : ℕ → Book → List ℕ → ℕ → ℕ → Sought → List ℕ
onward f b web k x Missing = anchors_to f b web k x
onward f b web k x (Found y) = cond (is_in y (reached b x)) (anchors_to f b web k y ++ (x ∷ [])) (anchors_to f b web k x)

onward_is : (f : ℕ) (b : Book) (web : List ℕ) (k x : ℕ) → anchors_to f b web (suc k) x ≡ onward f b web k x (leader_block f b (2 * k) web)
unfolding anchors_to onward
onward_is f b web k x = refl

anchors_next :
    (f : ℕ) (b : Book) (web : List ℕ) (k x : ℕ) (n : NextAnchor f b web k x) →
    anchors_to f b web (suc k) x ≡ anchors_to f b web k n.0 ++ (x ∷ [])
unfolding onward
anchors_next f b web k x n =
    onward_is f b web k x
    ∙ (ap (onward f b web k x) n.1 ∙ cond-then (is_in n.0 (reached b x)) (anchors_to f b web k n.0 ++ (x ∷ [])) (anchors_to f b web k x) n.2)

anchors_none : (f : ℕ) (b : Book) (web : List ℕ) (k x : ℕ) → (NextAnchor f b web k x → ⊥) → anchors_to f b web (suc k) x ≡ anchors_to f b web k x
unfolding onward
anchors_none f b web k x n = onward_is f b web k x ∙ go (leader_block f b (2 * k) web) refl
  where
    go : (m : Sought) → leader_block f b (2 * k) web ≡ m → onward f b web k x m ≡ anchors_to f b web k x
    go Missing e = refl
    go (Found y) e =
        cond-else (is_in y (reached b x)) (anchors_to f b web k y ++ (x ∷ [])) (anchors_to f b web k x) (not_T (is_in y (reached b x)) (λ h. n (y, e, h)))

anchors_zero : (f : ℕ) (b : Book) (web : List ℕ) (x : ℕ) → anchors_to f b web 0 x ≡ x ∷ []
unfolding anchors_to
anchors_zero f b web x = refl

-- the anchor from which one goes back is one of the anchors
anchor_last : (f : ℕ) (b : Book) (web : List ℕ) (k x : ℕ) → In x (anchors_to f b web k x)
anchor_last f b web zero x = subst (In x) (sym (anchors_zero f b web x)) (in_here x [])
anchor_last f b web (suc k) x =
    ⊎_elim (λ n. subst (In x) (sym (anchors_next f b web k x n)) (in_append_right x (anchors_to f b web k n.0) (x ∷ []) (in_here x [])))
    (λ n. subst (In x) (sym (anchors_none f b web k x n)) (anchor_last f b web k x))
    (next_or_none f b web k x)

-- all anchors up to a block of the web are in the web
anchors_within : (f : ℕ) (b : Book) (web : List ℕ) (k x : ℕ) → In x web → Within (anchors_to f b web k x) web
anchors_within f b web zero x h z t = subst (λ w. In w web) (sym (in_single z x (subst (In z) (anchors_zero f b web x) t))) h
anchors_within f b web (suc k) x h z t =
    ⊎_elim
    (λ n. ⊎_elim (anchors_within f b web k n.0 (leader_block_is f b (2 * k) web n.0 n.1).0 z)
    (λ p. subst (λ w. In w web) (sym (in_single z x p)) h)
    (in_append z (anchors_to f b web k n.0) (x ∷ []) (subst (In z) (anchors_next f b web k x n) t)))
    (λ n. anchors_within f b web k x h z (subst (In z) (anchors_none f b web k x n) t))
    (next_or_none f b web k x)

-- the next anchor in one web is the next in another that goes with it
next_same :
    {f : ℕ} {b : Book} {web web' : List ℕ} → Compatible f b web web' → (k x : ℕ) → In x web' → (n : NextAnchor f b web k x) →
    In n.0 web' × (leader_block f b (2 * k) web' ≡ Found n.0)
next_same {f} {b} {web} {web'} c k x h n =
    let l = leader_block_is f b (2 * k) web n.0 n.1 in
    let h' = reached_within b web' c.there.closed x h n.0 n.2 in
    (h', leader_block_found c.there (2 * k) n.0 h' l.1 l.2)

-- the anchors before a block that is in both webs are the same in both
anchors_same :
    {f : ℕ} {b : Book} {web web' : List ℕ} → Compatible f b web web' → (k x : ℕ) → In x web → In x web' →
    anchors_to f b web k x ≡ anchors_to f b web' k x
anchors_same {f} {b} {web} {web'} c zero x h h' = anchors_zero f b web x ∙ sym (anchors_zero f b web' x)
anchors_same {f} {b} {web} {web'} c (suc k) x h h' =
    ⊎_elim
    (λ n.
    let s = next_same c k x h' n in
    anchors_next f b web k x n
    ∙ (ap (λ l. l ++ (x ∷ [])) (anchors_same c k n.0 (leader_block_is f b (2 * k) web n.0 n.1).0 s.0)
    ∙ sym (anchors_next f b web' k x (n.0, s.1, n.2))))
    (λ n.
    anchors_none f b web k x n
    ∙ (anchors_same c k x h h' ∙ sym (anchors_none f b web' k x (λ m. n (m.0, (next_same (swapped c) k x h m).1, m.2)))))
    (next_or_none f b web k x)

-- ---- the last anchor
-- x is the leader's block of round 2 j, and has the votes
record Voted (f : ℕ) (b : Book) (web : List ℕ) (j x : ℕ) : Type 0 where
  found : leader_block f b (2 * j) web ≡ Found x
  enough : needed_votes f ≤ votes_for b x web

same_or_below : (i m : ℕ) → i ≤ m → (i ≡ m) ⊎ (i < m)
same_or_below i m h = ⊎_elim (λ t. inr (ltb→lt i m t)) (λ t. let g = nltb→le i m t in inl (omega arith)) (decided (ltb i m))

-- going back from a later block of a web that goes with it, one comes to what has the votes
walk_meets :
    {f : ℕ} {b : Book} {web web' : List ℕ} → Compatible f b web web' → (j x : ℕ) → Voted f b web j x → leader_block f b (2 * j) web' ≡ Found x →
    (k z : ℕ) → j < k → In z web' → 2 * k ≤ (b z).round → Begins (anchors_to f b web' j x) (anchors_to f b web' k z)
walk_meets {f} {b} {web} {web'} c j x v e zero z l hz r = absurd (omega arith)
walk_meets {f} {b} {web} {web'} c j x v e (suc k) z l hz r =
    ⊎_elim
    (λ (p : j ≡ k).
    let q = (leader_block_is f b (2 * j) web x v.found).1 in
    let there = subst (λ (i : ℕ). leader_block f b (2 * i) web' ≡ Found x) p e in
    let n : NextAnchor f b web' k z = (x, there, voted_reached c x z v.enough hz (omega arith)) in
    (z ∷ [], ap (λ (i : ℕ). anchors_to f b web' i x ++ (z ∷ [])) p ∙ sym (anchors_next f b web' k z n)))
    (λ (p : j < k).
    ⊎_elim
    (λ n.
    let s = leader_block_is f b (2 * k) web' n.0 n.1 in
    let q = s.1 in
    begins_then (anchors_to f b web' j x) (anchors_to f b web' k n.0) (anchors_to f b web' (suc k) z)
    (walk_meets c j x v e k n.0 p s.0 (omega arith)) (z ∷ [], sym (anchors_next f b web' k z n)))
    (λ n. subst (Begins (anchors_to f b web' j x)) (sym (anchors_none f b web' k z n)) (walk_meets c j x v e k z p hz (omega arith)))
    (next_or_none f b web' k z))
    (same_or_below j k (omega arith))

-- the anchors up to what has the votes in one web begin those up to what has them, as late or later, in another
anchors_begin :
    {f : ℕ} {b : Book} {web web' : List ℕ} → Compatible f b web web' → (j k x z : ℕ) → Voted f b web j x → Voted f b web' k z → j ≤ k →
    Begins (anchors_to f b web j x) (anchors_to f b web' k z)
anchors_begin {f} {b} {web} {web'} c j k x z v w l =
    let lx = leader_block_is f b (2 * j) web x v.found in
    let lz = leader_block_is f b (2 * k) web' z w.found in
    let rx = lx.1 in
    let rz = lz.1 in
    ⊎_elim
    (λ (p : j ≡ k).
    let same : x ≡ z =
    c.one x z lx.0 lz.0 (lx.2 ∙ (ap (λ (i : ℕ). leader f (2 * i)) p ∙ sym lz.2)) (lx.1 ∙ (ap (λ (i : ℕ). 2 * i) p ∙ sym lz.1)) in
    begins_same (anchors_to f b web j x) (anchors_to f b web' k z)
    (anchors_same c j x lx.0 (subst (λ y. In y web') (sym same) lz.0)
    ∙ (ap (λ (i : ℕ). anchors_to f b web' i x) p ∙ ap (anchors_to f b web' k) same)))
    (λ (p : j < k).
    let h = reached_within b web' c.there.closed z lz.0 x (voted_reached c x z v.enough lz.0 (omega arith)) in
    let e = leader_block_found c.there (2 * j) x h lx.1 lx.2 in
    begins_then (anchors_to f b web j x) (anchors_to f b web' j x) (anchors_to f b web' k z)
    (begins_same (anchors_to f b web j x) (anchors_to f b web' j x) (anchors_same c j x lx.0 h))
    (walk_meets c j x v e k z p lz.0 (omega arith)))
    (same_or_below j k l)

has_votes_lem : {f : ℕ} {b : Book} {web : List ℕ} {j x : ℕ} → Voted f b web j x → T (has_votes f b web (leader_block f b (2 * j) web))
has_votes_lem {f} {b} {web} {j} {x} v = subst (λ m. T (has_votes f b web m)) (sym v.found) (le→leb (needed_votes f) (votes_for b x web) v.enough)

votes_had : (f : ℕ) (b : Book) (web : List ℕ) (j : ℕ) → T (has_votes f b web (leader_block f b (2 * j) web)) → (x : ℕ) × Voted f b web j x
votes_had f b web j t = go (leader_block f b (2 * j) web) refl t
  where
    go : (m : Sought) → leader_block f b (2 * j) web ≡ m → T (has_votes f b web m) → (x : ℕ) × Voted f b web j x
    go Missing e h = absurd h
    go (Found x) e h = (x, record { found = e; enough = leb→le (needed_votes f) (votes_for b x web) h })

-- what is found as the last anchor: nothing, or a leader's block with the votes
abbrev Last : ℕ → Book → List ℕ → Sought → Type 0
Last f b web Missing = Unit {0}
Last f b web (Found x) = (j : ℕ) × Voted f b web j x

last_voted_is : (f : ℕ) (b : Book) (web : List ℕ) (k : ℕ) → Last f b web (last_voted f b web k)
unfolding last_voted
last_voted_is f b web zero = tt
last_voted_is f b web (suc k) =
    cond_cases (Last f b web) (has_votes f b web (leader_block f b (2 * k) web)) (leader_block f b (2 * k) web) (last_voted f b web k)
    (λ t. let v = votes_had f b web k t in subst (Last f b web) (sym v.1.found) (k, v.1))
    (λ _. last_voted_is f b web k)

-- what is found is as late as any leader's block with the votes
abbrev AsLate : ℕ → Book → List ℕ → ℕ → Sought → Type 0
AsLate f b web j m = (i : ℕ) × (y : ℕ) × (j ≤ i) × Voted f b web i y × (m ≡ Found y)

last_voted_late : (f : ℕ) (b : Book) (web : List ℕ) (k j x : ℕ) → j < k → Voted f b web j x → AsLate f b web j (last_voted f b web k)
unfolding last_voted
last_voted_late f b web zero j x l v = absurd (omega arith)
last_voted_late f b web (suc k) j x l v =
    let c = has_votes f b web (leader_block f b (2 * k) web) in
    cond_cases (AsLate f b web j) c (leader_block f b (2 * k) web) (last_voted f b web k)
    (λ t. let w = votes_had f b web k t in (k, w.0, omega arith, w.1, w.1.found))
    (λ n. ⊎_elim
    (λ (p : j ≡ k). absurd (T_not c n (subst (λ (i : ℕ). T (has_votes f b web (leader_block f b (2 * i) web))) p (has_votes_lem v))))
    (λ p. last_voted_late f b web k j x p v)
    (same_or_below j k (omega arith)))

-- no block of the web is of a later round than the last
round≤last : (b : Book) (web : List ℕ) (x : ℕ) → In x web → (b x).round ≤ last_round b web
unfolding last_round
round≤last b [] x h = absurd (in_none x h)
round≤last b (y ∷ ys) x h =
    let r = last_round b ys in
    let here : (x ≡ y) ⊎ ((b x).round ≤ r) = ⊎_elim (λ e. inl e) (λ k. inr (round≤last b ys x k)) (in_cons x y ys h) in
    cond_cases (λ n. (b x).round ≤ n) (ltb r (b y).round) (b y).round r
    (λ t. let l = ltb→lt r (b y).round t in ⊎_elim (λ e. let p = ap (λ z. (b z).round) e in omega arith) (λ (k : (b x).round ≤ r). omega arith) here)
    (λ t. let l = nltb→le r (b y).round t in ⊎_elim (λ e. let p = ap (λ z. (b z).round) e in omega arith) (λ k. k) here)

-- the anchors of a web are those up to its last one
anchors_of_lem :
    {f : ℕ} {b : Book} {web : List ℕ} {j x : ℕ} → Voted f b web j x → last_anchor f b web ≡ Found x → anchors_of f b web ≡ anchors_to f b web j x
unfolding anchors_of
anchors_of_lem {f} {b} {web} {j} {x} v e =
    let r = (leader_block_is f b (2 * j) web x v.found).1 in
    let h : (b x).round / 2 ≡ j = omega arith in
    ap (anchors_from f b web) e ∙ ap (λ (i : ℕ). anchors_to f b web i x) h

-- no leader's block with the votes is missed: the anchors are those up to one as late
anchors_late :
    {f : ℕ} {b : Book} {web : List ℕ} {j x : ℕ} → Voted f b web j x →
    (i : ℕ) × (y : ℕ) × (j ≤ i) × Voted f b web i y × (anchors_of f b web ≡ anchors_to f b web i y)
anchors_late {f} {b} {web} {j} {x} v =
    let q = leader_block_is f b (2 * j) web x v.found in
    let r = q.1 in
    let m = round≤last b web x q.0 in
    let a = last_voted_late f b web (last_round b web / 2 + 1) j x (omega arith) v in
    (a.0, a.1, a.2, a.3, anchors_of_lem a.3 a.4)

-- either there are no anchors, or they are those up to a leader's block with the votes
abbrev Anchored : ℕ → Book → List ℕ → Type 0
Anchored f b web = (j : ℕ) × (x : ℕ) × Voted f b web j x × (anchors_of f b web ≡ anchors_to f b web j x)

anchors_cases : (f : ℕ) (b : Book) (web : List ℕ) → (anchors_of f b web ≡ []) ⊎ Anchored f b web
unfolding anchors_of
anchors_cases f b web = go (last_anchor f b web) refl
  where
    go : (m : Sought) → last_anchor f b web ≡ m → (anchors_of f b web ≡ []) ⊎ Anchored f b web
    go Missing e = inl (ap (anchors_from f b web) e)
    go (Found x) e =
        let l = subst (Last f b web) e (last_voted_is f b web (last_round b web / 2 + 1)) in
        inr (l.0, x, l.1, anchors_of_lem l.1 e)

-- a leader's block with the votes is an anchor, whatever came later
pub voted_is_anchor :
    {f : ℕ} {b : Book} {web : List ℕ} → SoundWeb f b web → (k x : ℕ) → leader_block f b (2 * k) web ≡ Found x →
    needed_votes f ≤ votes_for b x web → In x (anchors_of f b web)
voted_is_anchor {f} {b} {web} s k x e v =
    let voted : Voted f b web k x = record { found = e; enough = v } in
    let l = anchors_late voted in
    let begun = anchors_begin (itself s) k l.0 x l.1 voted l.3 l.2 in
    subst (In x) (begun.1 ∙ sym l.4) (in_append_left x (anchors_to f b web k x) begun.0 (anchor_last f b web k x))

pub anchors_in_web : (f : ℕ) (b : Book) (web : List ℕ) → Within (anchors_of f b web) web
anchors_in_web f b web z t =
    ⊎_elim (λ e. absurd (in_none z (subst (In z) e t)))
    (λ l.
    anchors_within f b web l.0 l.1 (leader_block_is f b (2 * l.0) web l.1 l.2.found).0 z (subst (In z) l.3 t))
    (anchors_cases f b web)

-- ---- the order
-- listing goes on from what is listed
listed_begins : (b : Book) (done xs : List ℕ) → Begins done (listed b done xs)
unfolding listed
listed_begins b done [] = begins_same done done refl
listed_begins b done (x ∷ xs) =
    let more = sorted b (without done (reached b x)) in
    begins_then done (done ++ more) (listed b (done ++ more) xs) (more, refl) (listed_begins b (done ++ more) xs)

pub listed_append : (b : Book) (done xs ys : List ℕ) → listed b done (xs ++ ys) ≡ listed b (listed b done xs) ys
unfolding listed
listed_append b done [] ys = refl
listed_append b done (x ∷ xs) ys = listed_append b (done ++ sorted b (without done (reached b x))) xs ys

-- anchors that begin others have an order that begins theirs
order_begins :
    (f : ℕ) (b : Book) (web web' : List ℕ) → Begins (anchors_of f b web) (anchors_of f b web') → Begins (order f b web) (order f b web')
unfolding order
order_begins f b web web' p =
    subst (Begins (listed b [] (anchors_of f b web)))
    (sym (listed_append b [] (anchors_of f b web) p.0) ∙ ap (listed b []) p.1)
    (listed_begins b (listed b [] (anchors_of f b web)) p.0)

-- no anchors begin all others
none_begins : (f : ℕ) (b : Book) (web web' : List ℕ) → anchors_of f b web ≡ [] → Begins (order f b web) (order f b web')
none_begins f b web web' e = order_begins f b web web' (anchors_of f b web', ap (λ l. l ++ anchors_of f b web') e)

-- of two last anchors the one as early has an order that begins the other's
voted_begins :
    {f : ℕ} {b : Book} {web web' : List ℕ} → Compatible f b web web' → (j k x z : ℕ) → Voted f b web j x → Voted f b web' k z → j ≤ k →
    anchors_of f b web ≡ anchors_to f b web j x → anchors_of f b web' ≡ anchors_to f b web' k z → Begins (order f b web) (order f b web')
voted_begins {f} {b} {web} {web'} c j k x z v w l d e =
    let p = anchors_begin c j k x z v w l in
    order_begins f b web web' (p.0, ap (λ a. a ++ p.0) d ∙ (p.1 ∙ sym e))

-- of the orders of two compatible webs one is a beginning of the other
pub one_order :
    {f : ℕ} {b : Book} {web web' : List ℕ} → Compatible f b web web' →
    Begins (order f b web) (order f b web') ⊎ Begins (order f b web') (order f b web)
one_order {f} {b} {web} {web'} c =
    ⊎_elim (λ d. inl (none_begins f b web web' d))
    (λ u. ⊎_elim (λ e. inr (none_begins f b web' web e))
    (λ v. ⊎_elim (λ l. inl (voted_begins c u.0 v.0 u.1 v.1 u.2 v.2 (leb→le u.0 v.0 l) u.3 v.3))
    (λ n.
    let l = nleb→lt u.0 v.0 n in
    inr (voted_begins (swapped c) v.0 u.0 v.1 u.1 v.2 u.2 (omega arith) v.3 u.3))
    (decided (leb u.0 v.0)))
    (anchors_cases f b web'))
    (anchors_cases f b web)

-- a larger web's order only goes on
pub order_grows :
    {f : ℕ} {b : Book} {web web' : List ℕ} → Compatible f b web web' → Within web web' → Begins (order f b web) (order f b web')
order_grows {f} {b} {web} {web'} c h =
    ⊎_elim (none_begins f b web web')
    (λ u.
    let x = u.1 in
    let q = leader_block_is f b (2 * u.0) web x u.2.found in
    let g = votes_grow c.here web' h x in
    let n = u.2.enough in
    let stays : Voted f b web' u.0 x =
    record { found = leader_block_found c.there (2 * u.0) x (h x q.0) q.1 q.2; enough = omega arith } in
    let l = anchors_late stays in
    voted_begins c u.0 l.0 x l.1 u.2 l.3 l.2 u.3 l.4)
    (anchors_cases f b web)
