-- A round of blocks made by all good members on given parents, and then brought into all good webs. Assumes that at most f members are bad, and
-- that the book has a name for every block within the limits.
use mathlib.Core.Path.{◌≡◌, refl, ap, sym, subst, ◌∙◌}
use mathlib.Core.Bool.{Bool, true, ◌&&◌, not}
use mathlib.Core.List.{List, [], ◌∷◌}
use mathlib.Core.Logic.{◌⊎◌, inl, inr, ⊎_elim}
use Prim.Native.Nat.{ℕ, zero, suc, ◌+◌, ◌-◌, ◌≤◌, ◌<◌}
use native.Mathlib.Omega.{arith}
use lib.Dec.{T, eqb, ltb, leb, eqb_refl, T_not, lt→ltb, le→leb}
use lib.ListN.{length}
use Rattle.model.specs.Names.{is_in, all_in, different, distinct, all_below, union}
use Rattle.model.specs.Thresholds.{members, quorum, Few}
use Rattle.model.specs.Blocks.{Block, Book, valid, authors_at, within_limits, max_parents, max_load}
use Rattle.model.specs.World.{Event, Makes, member_at, good, world, web_of}
use Rattle.model.proofs.Tools.{and_both, decided, same_or_not, cond_cases, eq→eqb}
use Rattle.model.proofs.Lists.{In, Within, in_here, in_there, in_none, in_cons, all_in_lem, distinct_none, distinct_head, distinct_tail, distinct_cons, distinct_union, in_union, in_union_right}
use Rattle.model.proofs.Thresholds.{today, good_make_quorum, members-fit}
use Rattle.model.proofs.Validity.{make_valid, in_authors}
use Rattle.model.proofs.Worlds.{always_sound, good_member}
use Rattle.model.proofs.Steps.{After, after_none, after_then, after_grown, Maker, make_one}
use Rattle.model.proofs.Spread.{numbers, in_numbers, numbers_below, AllHave, spread}

-- the block that a member makes in a round on these parents, with an empty load
abbrev pub made_of : ℕ → ℕ → List ℕ → Block
made_of i r parents = record { author = i; round = r; parents = parents; load = [] }

pub distinct_numbers : (n : ℕ) → T (distinct (numbers n))
unfolding numbers
distinct_numbers zero = distinct_none
distinct_numbers (suc n) = distinct_cons n (numbers n) (λ t. let h = numbers_below n n t in omega arith) (distinct_numbers n)

pub length_union : (xs ys : List ℕ) → length (union xs ys) ≤ length xs + length ys
unfolding union
length_union [] ys = omega arith
length_union (x ∷ xs) ys =
    let ih = length_union xs ys in
    cond_cases (λ l. length l ≤ suc (length xs) + length ys) (is_in x ys) (union xs ys) (x ∷ union xs ys) (λ _. omega arith) (λ _. omega arith)

-- parents on which every good member can make a valid block of round r
pub record Parents (f : ℕ) (b : Book) (bad : ℕ → Bool) (r : ℕ) (parents : List ℕ) (es : List Event) : Type 0 where
  pub once : T (distinct parents)
  pub earlier : (y : ℕ) → In y parents → (b y).round < r
  pub enough : 0 < r → quorum f ≤ different (authors_at f b (r - 1) parents)
  pub not_many : length parents ≤ max_parents
  pub held : (i : ℕ) → T (good f bad i) → Within parents (web_of f b bad i es)

in_limits : (i r : ℕ) (parents : List ℕ) → length parents ≤ max_parents → T (within_limits (made_of i r parents))
unfolding all_below
in_limits i r parents h =
    and_both (leb (length parents) max_parents && leb 0 max_load) true (and_both (leb (length parents) max_parents) true (le→leb (length parents) max_parents h) tt) tt

module _ (f : ℕ) (b : Book) (name_of : Block → ℕ) (named : (k : Block) → T (within_limits k) → b (name_of k) ≡ k) (bad : ℕ → Bool) where
  -- a good member makes its block of round r
  make_own :
      (es : List Event) (i r : ℕ) (parents : List ℕ) → T (good f bad i) → Parents f b bad r parents es → (member_at i (world f b bad es)).round ≡ r →
      Maker f b bad i (name_of (made_of i r parents)) es (Makes i (name_of (made_of i r parents)) ∷ es)
  make_own es i r parents g p e =
      let k = made_of i r parents in
      let x = name_of k in
      let m = member_at i (world f b bad es) in
      let limits = in_limits i r parents p.not_many in
      let n = named k limits in
      let back : (P : Block → Type 0) → P k → P (b x) = λ P h. subst P (sym n) h in
      let v = valid f b (b x) in
      let a = eqb (b x).author i in
      let q = eqb (b x).round m.round in
      make_one f b bad es i x g
      (and_both (v && a && q) (all_in (b x).parents m.web)
      (and_both (v && a) q
      (and_both v a
      (back (λ z. T (valid f b z)) (make_valid f b k (good_member f bad i g) p.once p.earlier p.enough))
      (back (λ z. T (eqb z.author i)) (eqb_refl i)))
      (back (λ z. T (eqb z.round m.round)) (eq→eqb r m.round (sym e))))
      (back (λ z. T (all_in z.parents m.web)) (all_in_lem parents m.web (p.held i g))))
      (back (λ z. T (within_limits z)) limits)

-- those of a list of members that are good and at round r have made their block; all else is as it was
pub record HaveMade (f : ℕ) (b : Book) (name_of : Block → ℕ) (bad : ℕ → Bool) (r : ℕ) (parents makers : List ℕ) (es es' : List Event) : Type 0 where
  pub way : After f b bad es es'
  pub web_same : (j : ℕ) → web_of f b bad j es' ≡ web_of f b bad j es
  pub others : (j : ℕ) → (In j makers → ⊥) → (member_at j (world f b bad es')).round ≡ (member_at j (world f b bad es)).round
  pub stay : (j : ℕ) → ((member_at j (world f b bad es)).round ≡ r → ⊥) → (member_at j (world f b bad es')).round ≡ (member_at j (world f b bad es)).round
  pub go :
      (j : ℕ) → In j makers → T (good f bad j) → (member_at j (world f b bad es)).round ≡ r →
      ((member_at j (world f b bad es')).round ≡ suc r) × In (name_of (made_of j r parents)) (world f b bad es').made

module _ (f : ℕ) (b : Book) (name_of : Block → ℕ) (named : (k : Block) → T (within_limits k) → b (name_of k) ≡ k) (bad : ℕ → Bool)
    (r : ℕ) (parents : List ℕ) (es : List Event) (ready : Parents f b bad r parents es) where
  -- one more of them
  one_more :
      (i : ℕ) (makers : List ℕ) (es₁ : List Event) → (In i makers → ⊥) → HaveMade f b name_of bad r parents makers es es₁ →
      T (good f bad i) ⊎ T (not (good f bad i)) → ((member_at i (world f b bad es)).round ≡ r) ⊎ ((member_at i (world f b bad es)).round ≡ r → ⊥) →
      (es₂ : List Event) × HaveMade f b name_of bad r parents (i ∷ makers) es es₂
  one_more i makers es₁ new m (inr n) at = (
    es₁,
    record {
      way = m.way;
      web_same = m.web_same;
      others = λ j h. m.others j (λ t. h (in_there j i makers t));
      stay = m.stay;
      go = λ j t g e. ⊎_elim (λ q. absurd (T_not (good f bad i) n (subst (λ k. T (good f bad k)) q g))) (λ h. m.go j h g e) (in_cons j i makers t);
    },
  )
  one_more i makers es₁ new m (inl g) (inr n) = (
    es₁,
    record {
      way = m.way;
      web_same = m.web_same;
      others = λ j h. m.others j (λ t. h (in_there j i makers t));
      stay = m.stay;
      go = λ j t gj e. ⊎_elim (λ q. absurd (n (subst (λ k. (member_at k (world f b bad es)).round ≡ r) q e))) (λ h. m.go j h gj e) (in_cons j i makers t);
    },
  )
  one_more i makers es₁ new m (inl g) (inl e) =
      let at : (member_at i (world f b bad es₁)).round ≡ r = m.others i new ∙ e in
      let p : Parents f b bad r parents es₁ = record {
        once = ready.once;
        earlier = ready.earlier;
        enough = ready.enough;
        not_many = ready.not_many;
        held = λ j gj. subst (Within parents) (sym (m.web_same j)) (ready.held j gj);
      } in
      let k = make_own f b name_of named bad es₁ i r parents g p at in (
        Makes i (name_of (made_of i r parents)) ∷ es₁,
        record {
          way = after_then m.way k.way;
          web_same = λ j. k.web_same j ∙ m.web_same j;
          others = λ j h.
              k.round_same j (λ q. h (subst (λ z. In z (i ∷ makers)) (sym q) (in_here i makers))) ∙ m.others j (λ t. h (in_there j i makers t));
          stay = λ j h. k.round_same j (λ q. h (subst (λ z. (member_at z (world f b bad es)).round ≡ r) (sym q) e)) ∙ m.stay j h;
          go = λ j t gj ej.
              ⊎_elim
              (λ q. subst
              (λ z. ((member_at z (world f b bad (Makes i (name_of (made_of i r parents)) ∷ es₁))).round ≡ suc r)
              × In (name_of (made_of z r parents)) (world f b bad (Makes i (name_of (made_of i r parents)) ∷ es₁)).made)
              (sym q) (k.round_next ∙ ap suc at, k.is_made))
              (λ h.
              let s = m.go j h gj ej in
              (k.round_same j (λ q. new (subst (λ z. In z makers) q h)) ∙ s.0, (after_grown k.way).made (name_of (made_of j r parents)) s.1))
              (in_cons j i makers t);
        },
      )

  all_make : (makers : List ℕ) → T (distinct makers) → (es₁ : List Event) × HaveMade f b name_of bad r parents makers es es₁
  all_make [] d = (
    es,
    record {
      way = after_none f b bad es;
      web_same = λ j. refl;
      others = λ j h. refl;
      stay = λ j h. refl;
      go = λ j t g e. absurd (in_none j t);
    },
  )
  all_make (i ∷ makers) d =
      let rest = all_make makers (distinct_tail i makers d) in
      one_more i makers rest.0 (distinct_head i makers d) rest.1 (decided (good f bad i)) (same_or_not (member_at i (world f b bad es)).round r)

-- all good members at round r have made their block on these parents, and every good member holds all that was made
pub record NextRound (f : ℕ) (b : Book) (name_of : Block → ℕ) (bad : ℕ → Bool) (r : ℕ) (parents : List ℕ) (es es' : List Event) : Type 0 where
  pub way : After f b bad es es'
  pub have : AllHave f b bad es'
  pub is_block : (j : ℕ) → b (name_of (made_of j r parents)) ≡ made_of j r parents
  pub stay : (j : ℕ) → ((member_at j (world f b bad es)).round ≡ r → ⊥) → (member_at j (world f b bad es')).round ≡ (member_at j (world f b bad es)).round
  pub go :
      (j : ℕ) → T (good f bad j) → (member_at j (world f b bad es)).round ≡ r →
      ((member_at j (world f b bad es')).round ≡ suc r) × In (name_of (made_of j r parents)) (world f b bad es').made

pub next_round :
    (f : ℕ) (b : Book) (name_of : Block → ℕ) → ((k : Block) → T (within_limits k) → b (name_of k) ≡ k) → (bad : ℕ → Bool) → Few f bad →
    (r : ℕ) (parents : List ℕ) (es : List Event) → Parents f b bad r parents es → (es' : List Event) × NextRound f b name_of bad r parents es es'
next_round f b name_of named bad few r parents es ready =
    let all = all_make f b name_of named bad r parents es ready (numbers (members f)) (distinct_numbers (members f)) in
    let m = all.1 in
    let s = spread f b bad few all.0 in (
      s.then,
      record {
        way = after_then m.way s.quiet.way;
        have = s.holds;
        is_block = λ j. named (made_of j r parents) (in_limits j r parents ready.not_many);
        stay = λ j h. s.quiet.round_same j ∙ m.stay j h;
        go = λ j g e.
            let t = m.go j (in_numbers (members f) j (good_member f bad j g)) g e in
            (s.quiet.round_same j ∙ t.0, (after_grown s.quiet.way).made (name_of (made_of j r parents)) t.1);
      },
    )

-- ---- the blocks of one round
-- blocks of round r that good members below n made: one of each
pub record Row (f : ℕ) (b : Book) (bad : ℕ → Bool) (r : ℕ) (es : List Event) (n : ℕ) : Type 0 where
  pub blocks : List ℕ
  pub not_many : length blocks ≤ n
  pub once : T (distinct blocks)
  pub is_made : Within blocks (world f b bad es).made
  pub at_round : (x : ℕ) → In x blocks → (b x).round ≡ r
  pub below : (x : ℕ) → In x blocks → (b x).author < n
  pub complete : (i : ℕ) → i < n → T (good f bad i) → (x : ℕ) × In x blocks × ((b x).author ≡ i)

pub row :
    (f : ℕ) (b : Book) (bad : ℕ → Bool) (r : ℕ) (es : List Event) → ((i : ℕ) → T (good f bad i) → r < (member_at i (world f b bad es)).round) →
    (n : ℕ) → Row f b bad r es n
row f b bad r es past zero = record {
  blocks = [];
  not_many = omega arith;
  once = distinct_none;
  is_made = λ x t. absurd (in_none x t);
  at_round = λ x t. absurd (in_none x t);
  below = λ x t. absurd (in_none x t);
  complete = λ i h g. absurd (omega arith);
}
row f b bad r es past (suc n) = go (row f b bad r es past n) (decided (good f bad n))
  where
    go : Row f b bad r es n → T (good f bad n) ⊎ T (not (good f bad n)) → Row f b bad r es (suc n)
    go rest (inr bad-one) = record {
      blocks = rest.blocks;
      not_many = let h = rest.not_many in omega arith;
      once = rest.once;
      is_made = rest.is_made;
      at_round = rest.at_round;
      below = λ x t. let h = rest.below x t in omega arith;
      complete = λ i h g.
          rest.complete i (⊎_elim (λ e. absurd (T_not (good f bad n) bad-one (subst (λ k. T (good f bad k)) e g))) (λ d. omega arith) (same_or_not i n)) g;
    }
    go rest (inl g) =
        let made = (always_sound f b bad es).made_all n r g (past n g) in
        let x = made.0 in
        record {
          blocks = x ∷ rest.blocks;
          not_many = let h = rest.not_many in omega arith;
          once = distinct_cons x rest.blocks (λ t. let h = rest.below x t in let e = made.2 in omega arith) rest.once;
          is_made = λ y t. ⊎_elim (λ e. subst (λ z. In z (world f b bad es).made) (sym e) made.1) (λ h. rest.is_made y h) (in_cons y x rest.blocks t);
          at_round = λ y t. ⊎_elim (λ e. ap (λ z. (b z).round) e ∙ made.3) (λ h. rest.at_round y h) (in_cons y x rest.blocks t);
          below = λ y t.
              ⊎_elim (λ e. let q : (b y).author ≡ n = ap (λ z. (b z).author) e ∙ made.2 in omega arith)
              (λ h. let q = rest.below y h in omega arith)
              (in_cons y x rest.blocks t);
          complete = λ i h gi.
              ⊎_elim (λ e. (x, in_here x rest.blocks, made.2 ∙ sym e))
              (λ d. let s = rest.complete i (omega arith) gi in (s.0, in_there s.0 x rest.blocks s.1, s.2))
              (same_or_not i n);
        }

-- a row of blocks, and at most one made block more, are parents for the next round
pub row_parents :
    (f : ℕ) → f ≤ 4 → (b : Book) (bad : ℕ → Bool) → Few f bad → (r : ℕ) (es : List Event) → AllHave f b bad es → (blocks : Row f b bad r es (members f)) →
    (extra : List ℕ) → length extra ≤ 1 → T (distinct extra) → Within extra (world f b bad es).made → ((x : ℕ) → In x extra → (b x).round ≤ r) →
    Parents f b bad (suc r) (union extra blocks.blocks) es
row_parents f small b bad few r es have blocks extra one once made early =
    let all = union extra blocks.blocks in
    record {
      once = distinct_union extra blocks.blocks once blocks.once;
      earlier = λ y t.
          ⊎_elim (λ h. let q = early y h in omega arith) (λ h. let q = blocks.at_round y h in omega arith) (in_union y extra blocks.blocks t);
      enough = λ _.
          let e : suc r - 1 ≡ r = omega arith in
          subst (λ k. quorum f ≤ different (authors_at f b k all)) (sym e)
          (good_make_quorum (today f) bad few (authors_at f b r all)
          (λ i h n.
          let s = blocks.complete i h (and_both (ltb i (members f)) (not (bad i)) (lt→ltb i (members f) h) n) in
          subst (λ a. In a (authors_at f b r all)) s.2
          (in_authors f b r all s.0 (in_union_right s.0 extra blocks.blocks s.1) (blocks.at_round s.0 s.1)
          (blocks.below s.0 s.1))));
      not_many =
          let u = length_union extra blocks.blocks in let h = blocks.not_many in let k = members-fit f small in omega arith;
      held = λ i g y t. have y (⊎_elim (λ h. made y h) (λ h. blocks.is_made y h) (in_union y extra blocks.blocks t)) i g;
    }

-- in round 0 there are no parents
pub no_parents : (f : ℕ) (b : Book) (bad : ℕ → Bool) (es : List Event) → Parents f b bad 0 [] es
no_parents f b bad es = record {
  once = distinct_none;
  earlier = λ y t. absurd (in_none y t);
  enough = λ h. absurd (omega arith);
  not_many = omega arith;
  held = λ i g y t. absurd (in_none y t);
}
