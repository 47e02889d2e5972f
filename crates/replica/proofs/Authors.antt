-- A walk over a block's parents that puts the authors of those that count into a set. Assumes nothing.
use Rattle.std.proofs.Common.{◌≡◌, ℕ, ◌<◌, ◌≤◌, Bool, true, false, ◌&&◌, ◌||◌, T, eqb, ltb, List, [], ◌∷◌, Ok, Err, Result, refl, sym, subst, ◌∙◌, arith}
use Rattle.std.proofs.lemmas.Bool.{cond-false, ltb-true, and_parts}
use Rattle.std.specs.Result.{IsOk}
use Rattle.std.proofs.Math.Nat.{le_antisymm}
use Rattle.model.specs.Names.{is_in}
use Rattle.model.specs.Thresholds.{members}
use Rattle.model.specs.Blocks.{Book, authors_at}
use Rattle.model.proofs.Thresholds.{members-fit}
use Rattle.model.proofs.Lists.{Within, below_in, in_below, different_within}
use Rattle.members.specs.Sets.{Holds, Adds, limit}

-- lists of the same members are held alike
same_held : (bits : ℕ) (xs ys : List ℕ) → ((i : ℕ) → is_in i xs ≡ is_in i ys) → Holds bits xs → Holds bits ys
same_held bits xs ys same h =
    let there : Within xs ys = λ i t. subst T (same i) t in
    let back : Within ys xs = λ i t. subst T (sym (same i)) t in
    record {
      below = below_in limit ys (λ i t. in_below limit xs h.below i (back i t));
      has = λ i. h.has i ∙ same i;
      count = h.count ∙ le_antisymm (different_within xs ys there) (different_within ys xs back);
    }

-- the set holds some of all, and the rest are still to come
pub record Walked (bits : ℕ) (all rest : List ℕ) : Type 0 where
  pub so_far : List ℕ
  pub holds : Holds bits so_far
  pub joined : (i : ℕ) → is_in i all ≡ (is_in i so_far || is_in i rest)

pub begun : (bits : ℕ) (all : List ℕ) → Holds bits [] → Walked bits all all
unfolding is_in
begun bits all h = record { so_far = []; holds = h; joined = λ i. refl }

pub ended : (bits : ℕ) (all : List ℕ) → Walked bits all [] → Holds bits all
unfolding is_in
ended bits all w = same_held bits w.so_far all (λ i. sym (w.joined i ∙ grind arith)) w.holds

swap : (p q t : Bool) → (p || (q || t)) ≡ ((q || p) || t)
swap true true t = refl
swap true false t = refl
swap false true t = refl
swap false false t = refl

-- what is asked of a parent: whether it is of this round, and a member's
abbrev pub counts : ℕ → Book → ℕ → ℕ → Bool
counts f b r x = eqb (b x).round r && ltb (b x).author (members f)

module _ (f : ℕ) (b : Book) (r x : ℕ) (all rest : List ℕ) (bits : ℕ) (walked : Walked bits all (authors_at f b r (x ∷ rest))) where
  -- one that counts
  pub put_in : (new : ℕ) → counts f b r x ≡ true → Adds (b x).author bits new → Walked new all (authors_at f b r rest)
  unfolding authors_at is_in
  put_in new t adds =
      record {
        so_far = (b x).author ∷ walked.so_far;
        holds = adds walked.so_far walked.holds;
        joined = λ i. rw t at (walked.joined i) ∙ swap (is_in i walked.so_far) (eqb i (b x).author) (is_in i (authors_at f b r rest));
      }

  -- one that doesn't
  pub left_out : counts f b r x ≡ false → Walked bits all (authors_at f b r rest)
  unfolding authors_at
  left_out t = subst (Walked bits all) (cond-false _ _ _ t) walked

-- the author of a parent that counts is small enough for a set of members
pub small : (f : ℕ) (b : Book) (r x : ℕ) → f ≤ 4 → counts f b r x ≡ true → (b x).author < limit
small f b r x few t =
    let member = ltb-true (b x).author (members f) (and_parts (eqb (b x).round r) (ltb (b x).author (members f)) t).1 in
    let fits = members-fit f few in
    omega arith

-- a call whose error can't be: it is done, and this is what it gives
pub not_refused :
    {A E : Type 0} (r : Result A E) (P Q : Type 0) → (elim r as (λ _. Type 0) [ Ok _ ↦ P | Err _ ↦ Q ]) → (Q → ⊥) → IsOk r × P
not_refused (Ok _) P Q h never = (refl, h)
not_refused (Err _) P Q h never = absurd (never h)
