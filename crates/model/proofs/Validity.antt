-- What it means that a block is valid, taken apart and put together; the authors of a round. Assumes nothing.
use mathlib.Core.Path.{◌≡◌, sym, subst}
use mathlib.Core.Bool.{Bool, ◌&&◌, ◌||◌, not}
use mathlib.Core.List.{List, [], ◌∷◌}
use mathlib.Core.Logic.{⊎_elim}
use Prim.Native.Nat.{ℕ, zero, suc, ◌-◌, ◌≤◌, ◌<◌}
use native.Mathlib.Omega.{arith}
use lib.Dec.{T, eqb, ltb, leb, eqb→eq, T_not, ltb→lt, lt→ltb, leb→le, le→leb}
use Rattle.model.specs.Names.{different, distinct}
use Rattle.model.specs.Thresholds.{members, quorum}
use Rattle.model.specs.Blocks.{Block, Book, authors_at, all_earlier, valid}
use Rattle.model.proofs.Tools.{and_left, and_right, and_both, or_cases, or_left, or_right, cond_cases, cond-from, eq→eqb, decided}
use Rattle.model.proofs.Lists.{In, Within, in_none, in_here, in_there, in_cons}

-- ---- a valid block
-- the last of the tests: round 0, or a quorum of authors among the parents
abbrev has_quorum : ℕ → Book → Block → Bool
has_quorum f b k = eqb k.round 0 || leb (quorum f) (different (authors_at f b (k.round - 1) k.parents))

-- the tests, all of which a valid block passes
record Valid (f : ℕ) (b : Book) (k : Block) : Type 0 where
  member : T (ltb k.author (members f))
  different_parents : T (distinct k.parents)
  earlier : T (all_earlier b k.round k.parents)
  enough : T (has_quorum f b k)

valid_parts : (f : ℕ) (b : Book) (k : Block) → T (valid f b k) → Valid f b k
unfolding valid
valid_parts f b k t =
    let p = ltb k.author (members f) in
    let q = distinct k.parents in
    let r = all_earlier b k.round k.parents in
    let s = has_quorum f b k in
    let pqr = and_left (p && q && r) s t in
    record {
      member = and_left p q (and_left (p && q) r pqr);
      different_parents = and_right p q (and_left (p && q) r pqr);
      earlier = and_right (p && q) r pqr;
      enough = and_right (p && q && r) s t;
    }

earlier_all : (b : Book) (r : ℕ) (xs : List ℕ) → T (all_earlier b r xs) → (y : ℕ) → In y xs → (b y).round < r
unfolding all_earlier
earlier_all b r [] t y h = absurd (in_none y h)
earlier_all b r (x ∷ xs) t y h =
    ⊎_elim (λ e. subst (λ z. (b z).round < r) (sym e) (ltb→lt (b x).round r (and_left (ltb (b x).round r) (all_earlier b r xs) t)))
    (λ k. earlier_all b r xs (and_right (ltb (b x).round r) (all_earlier b r xs) t) y k)
    (in_cons y x xs h)

all_earlier_lem : (b : Book) (r : ℕ) (xs : List ℕ) → ((y : ℕ) → In y xs → (b y).round < r) → T (all_earlier b r xs)
unfolding all_earlier
all_earlier_lem b r [] h = tt
all_earlier_lem b r (x ∷ xs) h =
    and_both (ltb (b x).round r) (all_earlier b r xs) (lt→ltb (b x).round r (h x (in_here x xs)))
    (all_earlier_lem b r xs (λ y t. h y (in_there y x xs t)))

-- ---- the authors of a round
-- x is of round r, and its author is a member
abbrev counts : ℕ → Book → ℕ → ℕ → Bool
counts f b r x = eqb (b x).round r && ltb (b x).author (members f)

-- the author of a block of the list and round is one of them
pub in_authors :
    (f : ℕ) (b : Book) (r : ℕ) (xs : List ℕ) (x : ℕ) → In x xs → (b x).round ≡ r → (b x).author < members f → In (b x).author (authors_at f b r xs)
unfolding authors_at
in_authors f b r [] x t e h = absurd (in_none x t)
in_authors f b r (y ∷ xs) x t e h =
    let rest = authors_at f b r xs in
    cond_cases (In (b x).author) (counts f b r y) ((b y).author ∷ rest) rest
    (λ _. ⊎_elim (λ p. subst (λ z. In (b x).author ((b z).author ∷ rest)) p (in_here (b x).author rest))
    (λ k. in_there (b x).author (b y).author rest (in_authors f b r xs x k e h))
    (in_cons x y xs t))
    (λ n. ⊎_elim
    (λ p. absurd (T_not (counts f b r y) n (subst (λ z. T (counts f b r z)) p
    (and_both (eqb (b x).round r) (ltb (b x).author (members f)) (eq→eqb (b x).round r e) (lt→ltb (b x).author (members f) h)))))
    (λ k. in_authors f b r xs x k e h)
    (in_cons x y xs t))

-- each of them has a block of that round in the list
pub authors_in :
    (f : ℕ) (b : Book) (r : ℕ) (xs : List ℕ) (a : ℕ) → In a (authors_at f b r xs) →
    (x : ℕ) × In x xs × ((b x).round ≡ r) × ((b x).author ≡ a) × (a < members f)
unfolding authors_at
authors_in f b r [] a t = absurd (in_none a t)
authors_in f b r (y ∷ xs) a t =
    let rest = authors_at f b r xs in
    let Wanted : Type 0 = (x : ℕ) × In x (y ∷ xs) × ((b x).round ≡ r) × ((b x).author ≡ a) × (a < members f) in
    let later : In a rest → Wanted =
    λ h. let s = authors_in f b r xs a h in (s.0, in_there s.0 y xs s.1, s.2, s.3, s.4) in
    ⊎_elim
    (λ p. ⊎_elim
    (λ e. (
      y,
      in_here y xs,
      eqb→eq (b y).round r (and_left (eqb (b y).round r) (ltb (b y).author (members f)) p.0),
      sym e,
      subst (λ z. z < members f) (sym e) (ltb→lt (b y).author (members f) (and_right (eqb (b y).round r) (ltb (b y).author (members f)) p.0)),
    ))
    later (in_cons a (b y).author rest p.1))
    (λ p. later p.1)
    (cond-from (In a) (counts f b r y) ((b y).author ∷ rest) rest t)

pub authors_within : (f : ℕ) (b : Book) (r : ℕ) (xs ys : List ℕ) → Within xs ys → Within (authors_at f b r xs) (authors_at f b r ys)
authors_within f b r xs ys h a t =
    let s = authors_in f b r xs a t in
    subst (λ z. In z (authors_at f b r ys)) s.3
    (in_authors f b r ys s.0 (h s.0 s.1) s.2 (subst (λ z. z < members f) (sym s.3) s.4))

-- ---- what is known of a valid block, and what makes it one
pub valid_author : (f : ℕ) (b : Book) (k : Block) → T (valid f b k) → k.author < members f
valid_author f b k t = ltb→lt k.author (members f) (valid_parts f b k t).member

pub valid-distinct : (f : ℕ) (b : Book) (k : Block) → T (valid f b k) → T (distinct k.parents)
valid-distinct f b k t = (valid_parts f b k t).different_parents

pub valid_earlier : (f : ℕ) (b : Book) (k : Block) → T (valid f b k) → (y : ℕ) → In y k.parents → (b y).round < k.round
valid_earlier f b k t = earlier_all b k.round k.parents (valid_parts f b k t).earlier

pub valid-quorum : (f : ℕ) (b : Book) (k : Block) → T (valid f b k) → 0 < k.round → quorum f ≤ different (authors_at f b (k.round - 1) k.parents)
valid-quorum f b k t h =
    let n = different (authors_at f b (k.round - 1) k.parents) in
    ⊎_elim (λ e. let z = eqb→eq k.round 0 e in omega arith) (λ l. leb→le (quorum f) n l)
    (or_cases (eqb k.round 0) (leb (quorum f) n) (valid_parts f b k t).enough)

pub make_valid :
    (f : ℕ) (b : Book) (k : Block) → k.author < members f → T (distinct k.parents) → ((y : ℕ) → In y k.parents → (b y).round < k.round) →
    (0 < k.round → quorum f ≤ different (authors_at f b (k.round - 1) k.parents)) → T (valid f b k)
unfolding valid
make_valid f b k a d e q =
    let p = ltb k.author (members f) in
    let n = different (authors_at f b (k.round - 1) k.parents) in
    let r = all_earlier b k.round k.parents in
    and_both (p && distinct k.parents && r) (has_quorum f b k)
    (and_both (p && distinct k.parents) r (and_both p (distinct k.parents) (lt→ltb k.author (members f) a) d)
    (all_earlier_lem b k.round k.parents e))
    (⊎_elim (λ z. or_left (eqb k.round 0) (leb (quorum f) n) z)
    (λ z. or_right (eqb k.round 0) (leb (quorum f) n) (le→leb (quorum f) n (q (above k.round z))))
    (decided (eqb k.round 0)))
  where
    above : (m : ℕ) → T (not (eqb m 0)) → 0 < m
    above zero z = absurd z
    above (suc m) z = omega arith
