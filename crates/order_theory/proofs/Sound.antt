-- What is asked of a web makes it sound; and a round has a quorum of blocks in each round before it, so that few places are enough for a web's
-- blocks. Assumes nothing.
use Rattle.std.proofs.Common.{◌≡◌, ℕ, zero, suc, ◌+◌, ◌-◌, ◌*◌, ◌<◌, ◌≤◌, not, ◌&&◌, T, eqb, ltb, List, [], ◌∷◌, length, sym, refl, ap, ◌∙◌, subst, ⊎_elim, suc-mul, zero-mul, arith, eqb→eq, T_not}
use Rattle.model.specs.Names.{all_in, distinct, union}
use Rattle.model.specs.Thresholds.{members, quorum}
use Rattle.model.specs.Blocks.{Book, valid, authors_at}
use Rattle.model.specs.Reach.{parents_of, back, reached}
use Rattle.model.specs.Member.{rival}
use Rattle.model.specs.Promise.{whole_all}
use Rattle.model.specs.Seat.{fit}
use Rattle.model.proofs.Tools.{and_left, and_right, and_both, or_left, or_right, eq→eqb, not_eqb, same_or_not, cond_cases}
use Rattle.model.proofs.Lists.{In, Within, in_none, in_cons, in_all}
use Rattle.model.proofs.Lists.{in_union_left, in_union_right, different≤length, different_within}
use Rattle.model.proofs.Validity.{valid_earlier, authors_within}
use Rattle.model.proofs.Webs.{SoundWeb}
use Rattle.model.proofs.Reach.{reached-quorum, reached_within}

-- ---- a sound web
back_keeps : (b : Book) (n : ℕ) (xs : List ℕ) → Within xs (back b n xs)
unfolding back
back_keeps b zero xs x t = t
back_keeps b (suc n) xs x t = back_keeps b n (union (parents_of b xs) xs) x (in_union_right x (parents_of b xs) xs t)

parent_reached : (b : Book) (x y r : ℕ) → (b x).round ≡ suc r → In y (b x).parents → In y (reached b x)
unfolding reached back parents_of
parent_reached b x y r e h =
    subst (λ (k : ℕ). In y (back b k (x ∷ []))) (sym e)
    (back_keeps b r (union (parents_of b (x ∷ [])) (x ∷ [])) y
    (in_union_left y (parents_of b (x ∷ [])) (x ∷ []) (in_union_left y (b x).parents [] h)))

whole_at : (b : Book) (web xs : List ℕ) → T (whole_all b web xs) → (x : ℕ) → In x xs → Within (reached b x) web
unfolding whole_all
whole_at b web [] t x h = absurd (in_none x h)
whole_at b web (y ∷ xs) t x h =
    ⊎_elim (λ e. subst (λ z. Within (reached b z) web) (sym e) (in_all (reached b y) web (and_left (all_in (reached b y) web) (whole_all b web xs) t)))
    (λ k. whole_at b web xs (and_right (all_in (reached b y) web) (whole_all b web xs) t) x k)
    (in_cons x y xs h)

fit-valid : (f : ℕ) (b : Book) (xs : List ℕ) → T (fit f b xs) → (x : ℕ) → In x xs → T (valid f b (b x))
unfolding fit
fit-valid f b [] t x h = absurd (in_none x h)
fit-valid f b (y ∷ xs) t x h =
    let front = valid f b (b y) && not (rival b y xs) in
    ⊎_elim (λ e. subst (λ z. T (valid f b (b z))) (sym e) (and_left (valid f b (b y)) (not (rival b y xs)) (and_left front (fit f b xs) t)))
    (λ k. fit-valid f b xs (and_right front (fit f b xs) t) x k)
    (in_cons x y xs h)

-- another block of the author and round is a rival
is_rival :
    (b : Book) (x y : ℕ) (ys : List ℕ) → In y ys → (b x).author ≡ (b y).author → (b x).round ≡ (b y).round → (x ≡ y → ⊥) → T (rival b x ys)
unfolding rival
is_rival b x y [] h a r n = absurd (in_none y h)
is_rival b x y (z ∷ ys) h a r n =
    let p = not (eqb x z) in
    let q = eqb (b x).author (b z).author in
    let s = eqb (b x).round (b z).round in
    ⊎_elim
    (λ e. or_left (p && q && s) (rival b x ys)
    (and_both (p && q) s (and_both p q (not_eqb x z (λ d. n (d ∙ sym e))) (eq→eqb (b x).author (b z).author (a ∙ ap (λ w. (b w).author) e)))
    (eq→eqb (b x).round (b z).round (r ∙ ap (λ w. (b w).round) e))))
    (λ k. or_right (p && q && s) (rival b x ys) (is_rival b x y ys k a r n))
    (in_cons y z ys h)

fit_alone :
    (f : ℕ) (b : Book) (xs : List ℕ) → T (fit f b xs) → (x y : ℕ) → In x xs → In y xs → (b x).author ≡ (b y).author → (b x).round ≡ (b y).round → x ≡ y
unfolding fit
fit_alone f b [] t x y hx hy a r = absurd (in_none x hx)
fit_alone f b (z ∷ xs) t x y hx hy a r =
    let front = valid f b (b z) && not (rival b z xs) in
    let none = T_not (rival b z xs) (and_right (valid f b (b z)) (not (rival b z xs)) (and_left front (fit f b xs) t)) in
    let first : (w : ℕ) → In w xs → (b z).author ≡ (b w).author → (b z).round ≡ (b w).round → z ≡ w =
    λ w k p q. ⊎_elim (λ e. e) (λ d. absurd (none (is_rival b z w xs k p q d))) (same_or_not z w) in
    ⊎_elim
    (λ e. ⊎_elim (λ d. e ∙ sym d) (λ k. e ∙ first y k (ap (λ w. (b w).author) (sym e) ∙ a) (ap (λ w. (b w).round) (sym e) ∙ r)) (in_cons y z xs hy))
    (λ h. ⊎_elim
    (λ d. sym (d ∙ first x h (ap (λ w. (b w).author) (sym d) ∙ sym a) (ap (λ w. (b w).round) (sym d) ∙ sym r)))
    (λ k. fit_alone f b xs (and_right front (fit f b xs) t) x y h k a r)
    (in_cons y z xs hy))
    (in_cons x z xs hx)

-- A web that is whole, has nothing twice, and is fit, is sound.
pub sound_web : (f : ℕ) (b : Book) (web : List ℕ) → T (whole_all b web web) → T (distinct web) → T (fit f b web) → SoundWeb f b web
sound_web f b web whole once fits = record {
  closed = λ x y hx hy.
      let l = valid_earlier f b (b x) (fit-valid f b web fits x hx) y hy in
      whole_at b web web whole x hx y (parent_reached b x y ((b x).round - 1) (omega arith) hy);
  all_valid = fit-valid f b web fits;
  once = once;
  alone = fit_alone f b web fits;
}

-- ---- few places are enough
module _ (f : ℕ) (b : Book) where
  -- how many blocks of the first r rounds the list has
  rows_to : ℕ → List ℕ → ℕ
  rows_to zero xs = 0
  rows_to (suc r) xs = length (authors_at f b r xs) + rows_to r xs

  rows_none : (r : ℕ) → rows_to r [] ≡ 0
  unfolding rows_to authors_at
  rows_none zero = refl
  rows_none (suc r) = let ih = rows_none r in omega arith

  -- a block counts in its own round alone
  row_other : (r x : ℕ) (xs : List ℕ) → ((b x).round ≡ r → ⊥) → length (authors_at f b r (x ∷ xs)) ≡ length (authors_at f b r xs)
  unfolding authors_at
  row_other r x xs n =
      let here = eqb (b x).round r && ltb (b x).author (members f) in
      cond_cases (λ l. length l ≡ length (authors_at f b r xs)) here ((b x).author ∷ authors_at f b r xs) (authors_at f b r xs)
      (λ t. absurd (n (eqb→eq (b x).round r (and_left (eqb (b x).round r) (ltb (b x).author (members f)) t))))
      (λ _. refl)

  row_more : (r x : ℕ) (xs : List ℕ) → length (authors_at f b r (x ∷ xs)) ≤ suc (length (authors_at f b r xs))
  unfolding authors_at
  row_more r x xs =
      let here = eqb (b x).round r && ltb (b x).author (members f) in
      cond_cases (λ l. length l ≤ suc (length (authors_at f b r xs))) here ((b x).author ∷ authors_at f b r xs) (authors_at f b r xs)
      (λ _. omega arith) (λ _. omega arith)

  rows_late : (r x : ℕ) (xs : List ℕ) → r ≤ (b x).round → rows_to r (x ∷ xs) ≡ rows_to r xs
  unfolding rows_to
  rows_late zero x xs h = refl
  rows_late (suc r) x xs h =
      let e = row_other r x xs (λ p. omega arith) in
      let ih = rows_late r x xs (omega arith) in
      omega arith

  rows_more : (r x : ℕ) (xs : List ℕ) → rows_to r (x ∷ xs) ≤ suc (rows_to r xs)
  unfolding rows_to
  rows_more zero x xs = omega arith
  rows_more (suc r) x xs =
      ⊎_elim
      (λ p. let m = row_more r x xs in let e = rows_late r x xs (omega arith) in omega arith)
      (λ p. let e = row_other r x xs p in let ih = rows_more r x xs in omega arith)
      (same_or_not (b x).round r)

  rows_all : (r : ℕ) (xs : List ℕ) → rows_to r xs ≤ length xs
  rows_all r [] = let e = rows_none r in omega arith
  rows_all r (x ∷ xs) = let m = rows_more r x xs in let ih = rows_all r xs in omega arith

  -- a block of round r or later isn't among those of the first r rounds
  rows_but_one : (r x : ℕ) (xs : List ℕ) → In x xs → r ≤ (b x).round → rows_to r xs < length xs
  rows_but_one r x [] h l = absurd (in_none x h)
  rows_but_one r x (y ∷ xs) h l =
      ⊎_elim
      (λ e. let k = ap (λ z. (b z).round) e in let m = rows_late r y xs (omega arith) in let n = rows_all r xs in omega arith)
      (λ k. let m = rows_more r y xs in let ih = rows_but_one r x xs k l in omega arith)
      (in_cons x y xs h)

  rows_least : (q r : ℕ) (xs : List ℕ) → ((t : ℕ) → t < r → q ≤ length (authors_at f b t xs)) → r * q ≤ rows_to r xs
  unfolding rows_to
  rows_least q zero xs h = let e = zero-mul q in omega arith
  rows_least q (suc r) xs h =
      let e = suc-mul r q in
      let ih = rows_least q r xs (λ t l. h t (omega arith)) in
      let k = h r (omega arith) in
      omega arith

module _ {f : ℕ} {b : Book} {web : List ℕ} (sound : SoundWeb f b web) where
  -- each round before a block's has a quorum of blocks, so there are that many rounds at most
  pub rounds_few : (x : ℕ) → In x web → (b x).round * quorum f < length web
  rounds_few x h =
      let r = (b x).round in
      let l = rows_but_one f b r x web h (omega arith) in
      let m =
      rows_least f b (quorum f) r web
      (λ t k.
      let q = reached-quorum sound x t h k in
      let w =
      different_within (authors_at f b t (reached b x)) (authors_at f b t web)
      (authors_within f b t (reached b x) web (reached_within b web sound.closed x h)) in
      let d = different≤length (authors_at f b t web) in
      omega arith) in
      omega arith

-- so many rows fit
pub rows_fit : (f r : ℕ) → f ≤ 4 → r * quorum f < 4096 → ((r + 1) * members f ≤ 6400) × (r < 4096)
unfolding quorum members
rows_fit zero r h l = (omega arith, omega arith)
rows_fit (suc zero) r h l = (omega arith, omega arith)
rows_fit (suc (suc zero)) r h l = (omega arith, omega arith)
rows_fit (suc (suc (suc zero))) r h l = (omega arith, omega arith)
rows_fit (suc (suc (suc (suc zero)))) r h l = (omega arith, omega arith)
rows_fit (suc (suc (suc (suc (suc f))))) r h l = absurd (omega arith)
