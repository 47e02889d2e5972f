-- One member alone, its blocks one after the other: its anchors and its order for every length of the chain. Assumes nothing.
use mathlib.Core.Path.{◌≡◌, refl, ap, ap₂, sym, subst, ◌∙◌}
use mathlib.Core.Bool.{cond, ◌&&◌}
use mathlib.Core.List.{List, [], ◌∷◌, ◌++◌}
use mathlib.Core.Logic.{⊎_elim}
use Prim.Native.Nat.{ℕ, zero, suc, ◌+◌, ◌-◌, ◌*◌, ◌/◌, ◌≤◌, ◌<◌}
use native.Mathlib.Numerals.{add-one}
use native.Mathlib.Omega.{arith}
use lib.Arith.{lt→nleb}
use lib.Dec.{eqb, ltb, leb, eqb→eq, eqb_refl, not_T, lt→ltb, le→leb}
use Rattle.model.specs.Names.{is_in, union, without}
use Rattle.model.specs.Thresholds.{members, needed_votes}
use Rattle.model.specs.Blocks.{Book}
use Rattle.model.specs.Reach.{parents_of, back, reached}
use Rattle.model.specs.Order.{leader, Sought, Missing, Found, leader_block, votes_for, has_votes, last_voted, last_round, last_anchor}
use Rattle.model.specs.Order.{anchors_to, anchors_from, anchors_of, before, insert, sorted, listed, order}
use Rattle.model.specs.Cases.{chain, chain_to, evens, up_to, OneMemberAlone}
use Rattle.model.proofs.Tools.{and_left, and_both, or_left, cond-then, cond-else, same_or_not, eq→eqb, not_eqb}
use Rattle.model.proofs.Lists.{In, Within, in_none, in_here, in_there, in_cons, union_within, union_new, without_append, without_all, without-none}
use Rattle.model.proofs.TwoWebs.{listed_append}

-- ---- the numbers from a on, n of them
run : ℕ → ℕ → List ℕ
run a zero = []
run a (suc n) = a ∷ run (suc a) n

-- in a run stands what is neither before nor behind it
in_run : (x a n : ℕ) → a ≤ x → x < a + n → In x (run a n)
unfolding run
in_run x a zero low high = absurd (omega arith)
in_run x a (suc n) low high =
    ⊎_elim (λ e. subst (λ z. In x (z ∷ run (suc a) n)) e (in_here x (run (suc a) n)))
    (λ apart. in_there x a (run (suc a) n) (in_run x (suc a) n (omega arith) (omega arith)))
    (same_or_not x a)

run_from : (x a n : ℕ) → In x (run a n) → a ≤ x
unfolding run
run_from x a zero h = absurd (in_none x h)
run_from x a (suc n) h =
    ⊎_elim {A = x ≡ a} {B = In x (run (suc a) n)} {C = a ≤ x} (λ e. omega arith)
    (λ k. let low = run_from x (suc a) n k in omega arith)
    (in_cons x a (run (suc a) n) h)

run_below : (x a n : ℕ) → In x (run a n) → x < a + n
unfolding run
run_below x a zero h = absurd (in_none x h)
run_below x a (suc n) h =
    ⊎_elim {A = x ≡ a} {B = In x (run (suc a) n)} {C = x < a + suc n} (λ e. omega arith)
    (λ k. let high = run_below x (suc a) n k in omega arith)
    (in_cons x a (run (suc a) n) h)

-- one run after the other
run_append : (a m b n c : ℕ) → b ≡ a + m → c ≡ m + n → run a m ++ run b n ≡ run a c
unfolding run
run_append a zero b n c p q =
    let p' : b ≡ a = omega arith in
    let q' : n ≡ c = omega arith in
    ap₂ run p' q'
run_append a (suc m) b n c p q =
    let q' : suc (m + n) ≡ c = omega arith in
    ap (λ l. a ∷ l) (run_append (suc a) m b n (m + n) (omega arith) refl) ∙ ap (run a) q'

up_to-run : (k : ℕ) → up_to k ≡ run 0 k
unfolding up_to run
up_to-run zero = refl
up_to-run (suc k) = ap (λ l. l ++ (k ∷ [])) (up_to-run k) ∙ run_append 0 k k 1 (suc k) (omega arith) (omega arith)

-- ---- what is reached is a run
chain_parents : (a : ℕ) → (chain (suc a)).parents ≡ a ∷ []
chain_parents a =
    let less : suc a - 1 ≡ a = omega arith in
    cond-else (eqb (suc a) 0) [] ((suc a - 1) ∷ []) (not_eqb (suc a) 0 (λ e. omega arith)) ∙ ap (λ x. x ∷ []) less

chain_parents_run : (a m : ℕ) → parents_of chain (run (suc a) m) ≡ run a m
unfolding parents_of run
chain_parents_run a zero = refl
chain_parents_run a (suc m) =
    ap₂ union (chain_parents a) (chain_parents_run (suc a) m)
    ∙ union_new a [] (run (suc a) m) (λ t. let low = run_from a (suc a) m t in omega arith)
    ∙ ap (λ l. a ∷ l) (union_within [] (run (suc a) m) (λ z t. absurd (in_none z t)))

-- one step back from a run puts one number in front of it
back_step : (a m : ℕ) → union (parents_of chain (run (suc a) (suc m))) (run (suc a) (suc m)) ≡ run a (suc (suc m))
unfolding run
back_step a m =
    let xs = run (suc a) (suc m) in
    let shorter : Within (run (suc a) m) xs =
    λ z t. let high = run_below z (suc a) m t in in_run z (suc a) (suc m) (run_from z (suc a) m t) (omega arith) in
    ap (λ l. union l xs) (chain_parents_run a (suc m))
    ∙ union_new a (run (suc a) m) xs (λ t. let low = run_from a (suc a) (suc m) t in omega arith)
    ∙ ap (λ l. a ∷ l) (union_within (run (suc a) m) xs shorter)

-- back from a run one comes to the run from 0
back-run : (a m c : ℕ) → c ≡ suc (a + m) → back chain a (run a (suc m)) ≡ run 0 c
unfolding back
back-run zero m c e = let e' : suc m ≡ c = omega arith in ap (run 0) e'
back-run (suc a) m c e = ap (back chain a) (back_step a m) ∙ back-run a (suc m) c (omega arith)

-- the block x reaches 0 to x
reached-run : (x : ℕ) → reached chain x ≡ run 0 (suc x)
unfolding reached run
reached-run x = back-run x 0 (suc x) (omega arith)

-- ---- leaders and votes
leader_zero : (r : ℕ) → leader 0 r ≡ 0
unfolding members
leader_zero r = omega arith

needed_one : needed_votes 0 ≡ 1
unfolding needed_votes
needed_one = refl

-- the head of a list is the leader's block sought, or isn't
leader_here : (r : ℕ) (xs : List ℕ) → leader_block 0 chain r (r ∷ xs) ≡ Found r
unfolding leader_block
leader_here r xs =
    cond-then (eqb r r && eqb 0 (leader 0 r)) (Found r) (leader_block 0 chain r xs)
    (and_both (eqb r r) (eqb 0 (leader 0 r)) (eqb_refl r) (eq→eqb 0 (leader 0 r) (sym (leader_zero r))))

leader_there : (r x : ℕ) (xs : List ℕ) → (x ≡ r → ⊥) → leader_block 0 chain r (x ∷ xs) ≡ leader_block 0 chain r xs
unfolding leader_block
leader_there r x xs apart =
    cond-else (eqb x r && eqb 0 (leader 0 r)) (Found x) (leader_block 0 chain r xs)
    (not_T (eqb x r && eqb 0 (leader 0 r)) (λ t. apart (eqb→eq x r (and_left (eqb x r) (eqb 0 (leader 0 r)) t))))

-- the leader's block of a round is in the chain if the chain goes so far
leader_found : (r n : ℕ) → r ≤ n → leader_block 0 chain r (chain_to n) ≡ Found r
unfolding chain_to
leader_found r zero h = let e : 0 ≡ r = omega arith in subst (λ z. leader_block 0 chain r (z ∷ []) ≡ Found r) (sym e) (leader_here r [])
leader_found r (suc n) h =
    ⊎_elim (λ (e : suc n ≡ r). subst (λ z. leader_block 0 chain r (z ∷ chain_to n) ≡ Found r) (sym e) (leader_here r (chain_to n)))
    (λ apart. leader_there r (suc n) (chain_to n) apart ∙ leader_found r n (omega arith))
    (same_or_not (suc n) r)

-- the block x + 1 is the one vote for x
vote_here : (x : ℕ) (xs : List ℕ) → votes_for chain x (suc x ∷ xs) ≡ suc (votes_for chain x xs)
unfolding votes_for
vote_here x xs =
    let next : suc x ≡ x + 1 = omega arith in
    cond-then (eqb (suc x) (x + 1) && is_in x (chain (suc x)).parents) (suc (votes_for chain x xs)) (votes_for chain x xs)
    (and_both (eqb (suc x) (x + 1)) (is_in x (chain (suc x)).parents) (eq→eqb (suc x) (x + 1) next)
    (subst (In x) (sym (chain_parents x)) (in_here x [])))

vote_not_here : (x y : ℕ) (ys : List ℕ) → (y ≡ x + 1 → ⊥) → votes_for chain x (y ∷ ys) ≡ votes_for chain x ys
unfolding votes_for
vote_not_here x y ys apart =
    let test = eqb y (x + 1) && is_in x (chain y).parents in
    cond-else test (suc (votes_for chain x ys)) (votes_for chain x ys)
    (not_T test (λ t. apart (eqb→eq y (x + 1) (and_left (eqb y (x + 1)) (is_in x (chain y).parents) t))))

-- a block below n has a vote in the chain to n, the block n itself has none
voted : (x n : ℕ) → x < n → 1 ≤ votes_for chain x (chain_to n)
unfolding chain_to
voted x zero h = absurd (omega arith)
voted x (suc n) h =
    ⊎_elim
    (λ (e : n ≡ x). let one = vote_here n (chain_to n) in subst (λ z. 1 ≤ votes_for chain z (suc n ∷ chain_to n)) e (omega arith))
    (λ apart. let same = vote_not_here x (suc n) (chain_to n) (λ e. apart (omega arith)) in let ih = voted x n (omega arith) in omega arith)
    (same_or_not n x)

no_votes : (x : ℕ) → votes_for chain x [] ≡ 0
unfolding votes_for
no_votes x = refl

unvoted : (x n : ℕ) → n ≤ x → votes_for chain x (chain_to n) ≡ 0
unfolding chain_to
unvoted x zero h = vote_not_here x 0 [] (λ e. omega arith) ∙ no_votes x
unvoted x (suc n) h = vote_not_here x (suc n) (chain_to n) (λ e. omega arith) ∙ unvoted x n (omega arith)

last_round_lem : (n : ℕ) → last_round chain (chain_to n) ≡ n
unfolding last_round chain_to
last_round_lem zero = refl
last_round_lem (suc n) =
    let ih = last_round_lem n in
    let r = last_round chain (chain_to n) in
    cond-then (ltb r (suc n)) (suc n) r (lt→ltb r (suc n) (omega arith))

-- ---- the last anchor
-- an even round below n is voted for
last_voted_lem : (n k : ℕ) → 2 * k < n → last_voted 0 chain (chain_to n) (suc k) ≡ Found (2 * k)
unfolding last_voted
last_voted_lem n k h =
    let web = chain_to n in
    let rest = last_voted 0 chain web k in
    let v = voted (2 * k) n h in
    let e = needed_one in
    subst (λ l. cond (has_votes 0 chain web l) l rest ≡ Found (2 * k)) (sym (leader_found (2 * k) n (omega arith)))
    (cond-then (leb (needed_votes 0) (votes_for chain (2 * k) web)) (Found (2 * k)) rest
    (le→leb (needed_votes 0) (votes_for chain (2 * k) web) (omega arith)))

-- the round n, if it is even, isn't yet
last_unvoted : (n k : ℕ) → 2 * k ≡ n → last_voted 0 chain (chain_to n) (suc k) ≡ last_voted 0 chain (chain_to n) k
unfolding last_voted
last_unvoted n k h =
    let web = chain_to n in
    let rest = last_voted 0 chain web k in
    let v = unvoted (2 * k) n (omega arith) in
    let e = needed_one in
    subst (λ l. cond (has_votes 0 chain web l) l rest ≡ rest) (sym (leader_found (2 * k) n (omega arith)))
    (cond-else (leb (needed_votes 0) (votes_for chain (2 * k) web)) (Found (2 * k)) rest
    (lt→nleb (needed_votes 0) (votes_for chain (2 * k) web) (omega arith)))

last_start : (n : ℕ) → last_round chain (chain_to n) / 2 + 1 ≡ suc (n / 2)
last_start n = ap (λ r. r / 2 + 1) (last_round_lem n) ∙ add-one (n / 2)

last_anchor_found : (n j : ℕ) → (n + 1) / 2 ≡ suc j → last_anchor 0 chain (chain_to n) ≡ Found (2 * j)
last_anchor_found n j h =
    ap from (last_start n) ∙ ⊎_elim odd (λ apart. even (omega arith)) (same_or_not (n / 2) j)
  where
    from : ℕ → Sought
    from = last_voted 0 chain (chain_to n)

    odd : n / 2 ≡ j → from (suc (n / 2)) ≡ Found (2 * j)
    odd e = ap (λ k. from (suc k)) e ∙ last_voted_lem n j (omega arith)

    even : n / 2 ≡ suc j → from (suc (n / 2)) ≡ Found (2 * j)
    even e = ap (λ k. from (suc k)) e ∙ last_unvoted n (suc j) (omega arith) ∙ last_voted_lem n j (omega arith)

nothing_voted : (f : ℕ) (b : Book) (web : List ℕ) → last_voted f b web 0 ≡ Missing
unfolding last_voted
nothing_voted f b web = refl

last_anchor-missing : (n : ℕ) → (n + 1) / 2 ≡ 0 → last_anchor 0 chain (chain_to n) ≡ Missing
last_anchor-missing n h =
    let e : n / 2 ≡ 0 = omega arith in
    ap (last_voted 0 chain (chain_to n)) (last_start n)
    ∙ ap (λ k. last_voted 0 chain (chain_to n) (suc k)) e
    ∙ last_unvoted n 0 (omega arith)
    ∙ nothing_voted 0 chain (chain_to n)

-- ---- all anchors
-- a leader's block that is reached is the anchor before
anchors_step : (web : List ℕ) (k x y : ℕ) → leader_block 0 chain (2 * k) web ≡ Found y → In y (reached chain x) →
    anchors_to 0 chain web (suc k) x ≡ anchors_to 0 chain web k y ++ (x ∷ [])
unfolding anchors_to
anchors_step web k x y e h =
    rw (e, anchors_to) (cond-then (is_in y (reached chain x)) (anchors_to 0 chain web k y ++ (x ∷ [])) (anchors_to 0 chain web k x) h)

in_reached : (x y : ℕ) → y ≤ x → In y (reached chain x)
in_reached x y h = subst (In y) (sym (reached-run x)) (in_run y 0 (suc x) (omega arith) (omega arith))

anchors_to_lem : (n k : ℕ) → 2 * k ≤ n → anchors_to 0 chain (chain_to n) k (2 * k) ≡ evens (suc k)
unfolding anchors_to evens
anchors_to_lem n zero h = refl
anchors_to_lem n (suc k) h =
    anchors_step (chain_to n) k (2 * suc k) (2 * k) (leader_found (2 * k) n (omega arith)) (in_reached (2 * suc k) (2 * k) (omega arith))
    ∙ ap (λ l. l ++ (2 * suc k ∷ [])) (anchors_to_lem n k (omega arith))

chain_anchors : (n : ℕ) → anchors_of 0 chain (chain_to n) ≡ evens ((n + 1) / 2)
unfolding anchors_of evens
chain_anchors n = go ((n + 1) / 2) refl
  where
    go : (h : ℕ) → (n + 1) / 2 ≡ h → anchors_from 0 chain (chain_to n) (last_anchor 0 chain (chain_to n)) ≡ evens h
    go zero e = ap (anchors_from 0 chain (chain_to n)) (last_anchor-missing n e)
    go (suc j) e =
        let half : (2 * j) / 2 ≡ j = omega arith in
        ap (anchors_from 0 chain (chain_to n)) (last_anchor_found n j e)
        ∙ ap (λ k. anchors_to 0 chain (chain_to n) k (2 * j)) half
        ∙ anchors_to_lem n j (omega arith)

-- ---- the order
sorted-run : (a m : ℕ) → sorted chain (run a m) ≡ run a m
unfolding sorted insert run
sorted-run a zero = refl
sorted-run a (suc m) = ap (insert chain a) (sorted-run (suc a) m) ∙ first_in m
  where
    first_in : (k : ℕ) → insert chain a (run (suc a) k) ≡ a ∷ run (suc a) k
    first_in zero = refl
    first_in (suc k) =
        let earlier = before chain a (suc a) in
        cond-then earlier (a ∷ suc a ∷ run (suc (suc a)) k) (suc a ∷ insert chain a (run (suc (suc a)) k))
        (or_left (ltb a (suc a)) _ (lt→ltb a (suc a) (omega arith)))

-- without the run below a, the run to x is the run from a
without-run : (a m x : ℕ) → suc x ≡ a + m → without (run 0 a) (run 0 (suc x)) ≡ run a m
without-run a m x e =
    let done = run 0 a in
    let apart : (z : ℕ) → In z (run a m) → In z done → ⊥ = λ z t q. let low = run_from z a m t in let high = run_below z 0 a q in omega arith in
    ap (without done) (sym (run_append 0 a a m (suc x) (omega arith) e))
    ∙ without_append done done (run a m)
    ∙ ap₂ ◌++◌ (without_all done done (λ z t. t)) (without-none done (run a m) apart)

-- after the run below a, an anchor x adds the run from a to itself
listed_next : (a m x : ℕ) → suc x ≡ a + m → listed chain (run 0 a) (x ∷ []) ≡ run 0 (suc x)
unfolding listed
listed_next a m x e =
    let done = run 0 a in
    ap (λ l. done ++ sorted chain (without done l)) (reached-run x)
    ∙ ap (λ l. done ++ sorted chain l) (without-run a m x e)
    ∙ ap (λ l. done ++ l) (sorted-run a m)
    ∙ run_append 0 a a m (suc x) (omega arith) e

listed-evens : (k : ℕ) → listed chain [] (evens k) ≡ run 0 (2 * k - 1)
unfolding listed evens run
listed-evens zero = refl
listed-evens (suc k) =
    let last : suc (2 * k) ≡ 2 * suc k - 1 = omega arith in
    listed_append chain [] (evens k) (2 * k ∷ [])
    ∙ ap (λ l. listed chain l (2 * k ∷ [])) (listed-evens k)
    ∙ listed_next (2 * k - 1) (suc (2 * k) - (2 * k - 1)) (2 * k) (omega arith)
    ∙ ap (run 0) last

chain_ordered : (n : ℕ) → order 0 chain (chain_to n) ≡ up_to (2 * ((n + 1) / 2) - 1)
unfolding order
chain_ordered n =
    ap (listed chain []) (chain_anchors n) ∙ listed-evens ((n + 1) / 2) ∙ sym (up_to-run (2 * ((n + 1) / 2) - 1))

-- ONE MEMBER ALONE: its even blocks below the last are the anchors, and all up to the last anchor is ordered.
pub one_member_alone : OneMemberAlone
one_member_alone = record { anchors = chain_anchors; ordered = chain_ordered }
