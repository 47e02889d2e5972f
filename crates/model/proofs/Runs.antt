-- The promise isn't empty: a run after which blocks of all good members are ordered, one in which two bad members of four break the order, and a book that has a
-- name for every block. Assumes nothing.
use mathlib.Core.Path.{◌≡◌, refl, ap, sym, subst, ◌∙◌}
use mathlib.Core.Bool.{Bool, cond, not}
use mathlib.Core.List.{List, [], ◌∷◌, ◌++◌, map, head-eq_of_cons-eq}
use Prim.Native.Nat.{ℕ, zero, suc, ◌+◌, ◌-◌, ◌*◌, ◌/◌}
use native.Mathlib.Omega.{arith}
use lib.Dec.{T, eqb, ltb, ltb→lt}
use Rattle.model.specs.Names.{is_in, all_in, distinct, different, union, without}
use Rattle.model.specs.Thresholds.{members, quorum, needed_votes, bad_count}
use Rattle.model.specs.Blocks.{Book, authors_at, all_earlier, valid}
use Rattle.model.specs.Reach.{parents_of, back, reached}
use Rattle.model.specs.Order.{leader_block, votes_for, last_voted, last_round, anchors_to, anchors_of, insert, sorted, listed, order}
use Rattle.model.specs.Member.{rival}
use Rattle.model.specs.World.{Event, Makes, Signs, Takes, Forges, new_members, good, signers, world, order_of}
use Rattle.model.specs.Promise.{Begins}
use Rattle.model.specs.Cases.{block}
use Rattle.model.specs.Runs.{has_block_of, SomethingIsOrdered, TooManyBadDisagree, EveryBlockHasAName, NotEmpty}
use Rattle.model.proofs.Tools.{and_left}
use Rattle.model.proofs.Pairing.{name_of_block, book_of_all, every_block_named}

-- every member of the first list does it with every name of the second
each : (ℕ → ℕ → Event) → List ℕ → List ℕ → List Event
each act [] names = []
each act (i ∷ is) names = map (act i) names ++ each act is names

-- the definitions to open, written once: a proof that names `running` computes a world and an order
running : Unit {0}
unfolding is_in all_in distinct different union without members quorum needed_votes authors_at all_earlier valid parents_of back reached leader_block
    votes_for last_voted last_round anchors_to anchors_of insert sorted listed order rival new_members signers world each
running = tt

-- ---- a run after which blocks of all good members are ordered: members 0, 1, 2 are good, 3 is bad
three : List ℕ
three = 0 ∷ 1 ∷ 2 ∷ []

bad_three : ℕ → Bool
bad_three i = eqb i 3

-- the good members' blocks of a round
three_of : ℕ → List ℕ
three_of r = (4 * r) ∷ (4 * r + 1) ∷ (4 * r + 2) ∷ []

-- A block's name is 4 times its round and its author, its parents are the good members' blocks of the round before; and 100 is a rival of 3.
fair_book : Book
fair_book x = cond (eqb x 100) (record { author = 3; round = 0; parents = []; load = 1 ∷ [] }) (block x (three_of (x / 4 - 1)))

-- Latest first. The bad member signs both its blocks of round 0; members 0 and 1 sign the one, member 2 the other, so only the one is certified;
-- member 0 takes it in, but may neither sign nor take in the other.
rivals : List Event
rivals =
    Takes 0 100 ∷ Takes 0 3 ∷ Signs 0 100 ∷ Signs 2 100 ∷ Signs 1 3 ∷ Signs 0 3 ∷ Forges 3 100 ∷ Forges 3 3 ∷ []

-- in a round each good member makes its block, then all sign all three, then all take in all three
fair_round : ℕ → List Event
fair_round r = each Takes three (three_of r) ++ (each Signs three (three_of r) ++ (Makes 0 (4 * r) ∷ Makes 1 (4 * r + 1) ∷ Makes 2 (4 * r + 2) ∷ []))

fair_run : List Event
fair_run = fair_round 3 ++ (fair_round 2 ++ (fair_round 1 ++ (fair_round 0 ++ rivals)))

-- the three good members' orders are this one
fair_order : List ℕ
fair_order = 0 ∷ 1 ∷ 2 ∷ 4 ∷ 5 ∷ 6 ∷ 9 ∷ []

-- what holds for 0, 1 and 2 holds for every good member
for_each_good : (P : ℕ → Type 0) → P 0 → P 1 → P 2 → (i : ℕ) → T (good 1 bad_three i) → P i
unfolding members bad_three
for_each_good P a b c zero t = a
for_each_good P a b c (suc zero) t = b
for_each_good P a b c (suc (suc zero)) t = c
for_each_good P a b c (suc (suc (suc zero))) t = absurd t
for_each_good P a b c (suc (suc (suc (suc n)))) t =
    let small = ltb→lt (suc (suc (suc (suc n)))) 4 (and_left (ltb (suc (suc (suc (suc n)))) 4) (not (eqb (suc (suc (suc (suc n)))) 3)) t) in
    absurd (omega arith)

fair_orders : (i : ℕ) → T (good 1 bad_three i) → order_of 1 fair_book bad_three i fair_run ≡ fair_order
unfolding running three bad_three three_of fair_book rivals fair_round fair_run fair_order
fair_orders = for_each_good (λ i. order_of 1 fair_book bad_three i fair_run ≡ fair_order) refl refl refl

holds_each : (j : ℕ) → T (good 1 bad_three j) → T (has_block_of fair_book j fair_order)
unfolding has_block_of three_of fair_book fair_order
holds_each = for_each_good (λ j. T (has_block_of fair_book j fair_order)) tt tt tt

one_bad : bad_count (members 1) bad_three ≡ 1
unfolding members bad_count bad_three
one_bad = refl

something_is_ordered : SomethingIsOrdered
something_is_ordered =
    (fair_book, bad_three, fair_run, one_bad, λ i j hi hj. subst (λ l. T (has_block_of fair_book j l)) (sym (fair_orders i hi)) (holds_each j hj))

-- ---- a run in which two bad members break the order: members 2 and 3 are bad, and show member 0 other blocks than member 1
bad_two : ℕ → Bool
bad_two i = ltb 1 i

-- on member 0's side a block's name is 4 times its round and its author, on member 1's side 100 more
side0 : ℕ → List ℕ
side0 r = (4 * r) ∷ (4 * r + 2) ∷ (4 * r + 3) ∷ []

side1 : ℕ → List ℕ
side1 r = (100 + 4 * r + 1) ∷ (100 + 4 * r + 2) ∷ (100 + 4 * r + 3) ∷ []

-- parents are the three blocks of the round before, of the same side
split_book : Book
split_book x = cond (ltb x 100) (block x (side0 (x / 4 - 1))) (block (x - 100) (side1 ((x - 100) / 4 - 1)))

-- Latest first. Member i makes the first of the three and signs all three, the bad members sign all three too, so all are certified; and
-- member i takes them in.
split_round : ℕ → ℕ → List ℕ → List Event
split_round i own names =
    each Takes (i ∷ []) names ++ (each Forges (2 ∷ 3 ∷ []) names ++ (each Signs (i ∷ []) names ++ (Makes i own ∷ [])))

-- two rounds for member 0, four for member 1
split_run : List Event
split_run =
    split_round 1 113 (side1 3) ++ (split_round 1 109 (side1 2) ++ (split_round 1 105 (side1 1) ++ (split_round 1 101 (side1 0)
    ++ (split_round 0 4 (side0 1) ++ split_round 0 0 (side0 0)))))

-- member 0 orders its own first block
split_order_0 : order_of 1 split_book bad_two 0 split_run ≡ 0 ∷ []
unfolding running bad_two side0 side1 split_book split_round split_run
split_order_0 = refl

-- member 1 orders its own, with all that its block of round 2 reaches
split_order_1 : order_of 1 split_book bad_two 1 split_run ≡ 101 ∷ 102 ∷ 103 ∷ 105 ∷ 106 ∷ 107 ∷ 109 ∷ []
unfolding running bad_two side0 side1 split_book split_round split_run
split_order_1 = refl

two_bad : bad_count (members 1) bad_two ≡ 2
unfolding members bad_count bad_two
two_bad = refl

good_0 : T (good 1 bad_two 0)
unfolding members bad_two
good_0 = tt

good_1 : T (good 1 bad_two 1)
unfolding members bad_two
good_1 = tt

-- lists with different heads aren't one a beginning of the other
no_beginning : (xs ys : List ℕ) (x y : ℕ) (xs' ys' : List ℕ) → xs ≡ x ∷ xs' → ys ≡ y ∷ ys' → (x ≡ y → ⊥) → Begins xs ys → ⊥
no_beginning xs ys x y xs' ys' p q apart s = apart (head-eq_of_cons-eq (ap (λ l. l ++ s.0) (sym p) ∙ (s.1 ∙ q)))

too_many_bad_disagree : TooManyBadDisagree
too_many_bad_disagree =
    let apart : ◌≡◌ {A = ℕ} 0 101 → ⊥ = λ e. omega arith in (
      split_book,
      bad_two,
      split_run,
      two_bad,
      0,
      1,
      good_0,
      good_1,
      no_beginning (order_of 1 split_book bad_two 0 split_run) (order_of 1 split_book bad_two 1 split_run) 0 101 _ _ split_order_0 split_order_1 apart,
      no_beginning (order_of 1 split_book bad_two 1 split_run) (order_of 1 split_book bad_two 0 split_run) 101 0 _ _ split_order_1 split_order_0
          (λ e. apart (sym e)),
    )

-- ---- a book with a name for every block
every_block_has_a_name : EveryBlockHasAName
every_block_has_a_name = (book_of_all, name_of_block, every_block_named)

-- THE PROMISE ISN'T EMPTY.
pub not_empty : NotEmpty
not_empty =
    record {
      something_is_ordered = something_is_ordered;
      too_many_bad_disagree = too_many_bad_disagree;
      every_block_has_a_name = every_block_has_a_name;
    }
