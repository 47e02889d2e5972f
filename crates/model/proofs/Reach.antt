-- The laws of reaching, after which `back` and its number of steps need not be opened again. Assumes nothing.
use mathlib.Core.Path.{◌≡◌, refl, ap, sym, subst}
use mathlib.Core.List.{List, [], ◌∷◌}
use mathlib.Core.Logic.{◌⊎◌, inl, inr, ⊎_elim}
use Prim.Native.Nat.{ℕ, zero, suc, ◌+◌, ◌-◌, ◌≤◌, ◌<◌}
use native.Mathlib.Omega.{arith}
use lib.Dec.{T}
use Rattle.model.specs.Names.{different, distinct, union}
use Rattle.model.specs.Thresholds.{quorum}
use Rattle.model.specs.Blocks.{Book, authors_at}
use Rattle.model.specs.Reach.{parents_of, back, reached}
use Rattle.model.proofs.Lists.{In, Within, in_none, in_here, in_there, in_cons, in_single}
use Rattle.model.proofs.Lists.{in_union, in_union_left, in_union_right}
use Rattle.model.proofs.Lists.{distinct_none, distinct_cons, distinct_union, different-none, different_within}
use Rattle.model.proofs.Thresholds.{today, quorum_some}
use Rattle.model.proofs.Validity.{authors_in, authors_within, valid-distinct, valid_earlier, valid-quorum}
use Rattle.model.proofs.Webs.{SoundWeb}

-- ---- the parents of all blocks of a list
in_parents : (b : Book) (xs : List ℕ) (y : ℕ) → In y (parents_of b xs) → (x : ℕ) × In x xs × In y (b x).parents
unfolding parents_of
in_parents b [] y t = absurd (in_none y t)
in_parents b (x ∷ xs) y t =
    ⊎_elim (λ h. (x, in_here x xs, h)) (λ h. let s = in_parents b xs y h in (s.0, in_there s.0 x xs s.1, s.2))
    (in_union y (b x).parents (parents_of b xs) t)

parents_in : (b : Book) (xs : List ℕ) (x y : ℕ) → In x xs → In y (b x).parents → In y (parents_of b xs)
unfolding parents_of
parents_in b [] x y t h = absurd (in_none x t)
parents_in b (z ∷ xs) x y t h =
    ⊎_elim (λ e. in_union_left y (b z).parents (parents_of b xs) (subst (λ w. In y (b w).parents) e h))
    (λ k. in_union_right y (b z).parents (parents_of b xs) (parents_in b xs x y k h))
    (in_cons x z xs t)

distinct_parents : (b : Book) (xs : List ℕ) → ((x : ℕ) → In x xs → T (distinct (b x).parents)) → T (distinct (parents_of b xs))
unfolding parents_of
distinct_parents b [] h = distinct_none
distinct_parents b (x ∷ xs) h =
    distinct_union (b x).parents (parents_of b xs) (h x (in_here x xs)) (distinct_parents b xs (λ z t. h z (in_there z x xs t)))

-- ---- so many steps back
pub back_keeps : (b : Book) (n : ℕ) (xs : List ℕ) → Within xs (back b n xs)
unfolding back
back_keeps b zero xs x t = t
back_keeps b (suc n) xs x t = back_keeps b n (union (parents_of b xs) xs) x (in_union_right x (parents_of b xs) xs t)

-- what holds of the list, and of the parents of that of which it holds, holds of all that is so many steps back
back_all :
    (b : Book) (P : ℕ → Type 0) → ((x y : ℕ) → P x → In y (b x).parents → P y) → (n : ℕ) (xs : List ℕ) → ((x : ℕ) → In x xs → P x) →
    (x : ℕ) → In x (back b n xs) → P x
unfolding back
back_all b P step zero xs h = h
back_all b P step (suc n) xs h =
    back_all b P step n (union (parents_of b xs) xs)
    (λ y t. ⊎_elim (λ p. let s = in_parents b xs y p in step s.0 y (h s.0 s.1) s.2) (λ p. h y p) (in_union y (parents_of b xs) xs t))

pub reached_self : (b : Book) (x : ℕ) → In x (reached b x)
unfolding reached
reached_self b x = back_keeps b (b x).round (x ∷ []) x (in_here x [])

-- what holds of a block, and of the parents of that of which it holds, holds of all that is reached
pub reached_all :
    (b : Book) (P : ℕ → Type 0) → ((x y : ℕ) → P x → In y (b x).parents → P y) → (x : ℕ) → P x → (y : ℕ) → In y (reached b x) → P y
unfolding reached
reached_all b P step x h = back_all b P step (b x).round (x ∷ []) (λ z t. subst P (sym (in_single z x t)) h)

-- a web that holds the parents of what it holds, holds what is reached from what it holds
pub reached_within :
    (b : Book) (web : List ℕ) → ((x y : ℕ) → In x web → In y (b x).parents → In y web) → (x : ℕ) → In x web → Within (reached b x) web
reached_within b web closed x h = reached_all b (λ y. In y web) closed x h

-- a list with a different name has a name
some_in : (xs : List ℕ) → 0 < different xs → (x : ℕ) × In x xs
some_in [] h = let e = different-none in absurd (omega arith)
some_in (x ∷ xs) h = (x, in_here x xs)

module _ {f : ℕ} {b : Book} {web : List ℕ} (sound : SoundWeb f b web) where
  one_within : (x : ℕ) → In x web → Within (x ∷ []) web
  one_within x h w t = subst (λ v. In v web) (sym (in_single w x t)) h

  -- a step back stays in the web
  step_within : (xs : List ℕ) → Within xs web → Within (union (parents_of b xs) xs) web
  step_within xs h w t =
      ⊎_elim (λ p. let s = in_parents b xs w p in sound.closed s.0 w (h s.0 s.1) s.2) (h w) (in_union w (parents_of b xs) xs t)

  -- if each of the list either has its parents in it or has no more rounds below it than there are steps, then what is so many steps back
  -- has its parents there too
  back_parents :
      (n : ℕ) (xs : List ℕ) → Within xs web → ((y : ℕ) → In y xs → Within (b y).parents xs ⊎ ((b y).round ≤ n)) →
      (y z : ℕ) → In y (back b n xs) → In z (b y).parents → In z (back b n xs)
  unfolding back
  back_parents zero xs h k y z hy hz =
      let l = valid_earlier f b (b y) (sound.all_valid y (h y hy)) z hz in
      ⊎_elim (λ p. p z hz) (λ (p : (b y).round ≤ 0). absurd (omega arith)) (k y hy)
  back_parents (suc n) xs h k y z hy hz =
      let ys = union (parents_of b xs) xs in
      let old : (w : ℕ) → In w xs → Within (b w).parents ys = λ w t v q. in_union_left v (parents_of b xs) xs (parents_in b xs w v t q) in
      let new : (w : ℕ) → In w (parents_of b xs) → Within (b w).parents ys ⊎ ((b w).round ≤ n) = λ w t.
      let s = in_parents b xs w t in
      let l = valid_earlier f b (b s.0) (sound.all_valid s.0 (h s.0 s.1)) w s.2 in
      ⊎_elim (λ p. inl (old w (p w s.2))) (λ (p : (b s.0).round ≤ suc n). inr (omega arith)) (k s.0 s.1) in
      back_parents n ys
      (step_within xs h)
      (λ w t. ⊎_elim (new w) (λ p. inl (old w p)) (in_union w (parents_of b xs) xs t))
      y z hy hz

  back-distinct : (n : ℕ) (xs : List ℕ) → Within xs web → T (distinct xs) → T (distinct (back b n xs))
  unfolding back
  back-distinct zero xs h d = d
  back-distinct (suc n) xs h d =
      back-distinct n (union (parents_of b xs) xs)
      (step_within xs h)
      (distinct_union (parents_of b xs) xs (distinct_parents b xs (λ w t. valid-distinct f b (b w) (sound.all_valid w (h w t)))) d)

  -- parents of what is reached are reached
  pub reached_parents : (x y z : ℕ) → In x web → In y (reached b x) → In z (b y).parents → In z (reached b x)
  unfolding reached
  reached_parents x y z hx hy hz =
      back_parents (b x).round (x ∷ []) (one_within x hx)
      (λ w t. let e = ap (λ v. (b v).round) (in_single w x t) in inr (omega arith))
      y z hy hz

  -- what is reached from something reached is reached
  pub reached_through : (x y z : ℕ) → In x web → In y (reached b x) → In z (reached b y) → In z (reached b x)
  reached_through x y z hx hy hz = reached_within b (reached b x) (λ v w. reached_parents x v w hx) y hy z hz

  -- what is reached is the block itself or of an earlier round
  pub reached_earlier : (x y : ℕ) → In x web → In y (reached b x) → (y ≡ x) ⊎ ((b y).round < (b x).round)
  reached_earlier x y hx hy =
      (reached_all b (λ z. In z web × ((z ≡ x) ⊎ ((b z).round < (b x).round)))
      (λ v w h t.
      let l = valid_earlier f b (b v) (sound.all_valid v h.0) w t in (
        sound.closed v w h.0 t,
        inr (⊎_elim (λ e. let r = ap (λ u. (b u).round) e in omega arith) (λ (r : (b v).round < (b x).round). omega arith) h.1),
      ))
      x (hx, inl refl) y hy).1

  pub reached-distinct : (x : ℕ) → In x web → T (distinct (reached b x))
  unfolding reached
  reached-distinct x hx =
      back-distinct (b x).round (x ∷ []) (one_within x hx)
      (distinct_cons x [] (λ t. in_none x t) distinct_none)

  -- in the round d below the one just before x's, a quorum of authors' blocks is reached from x
  quorum_below : (d x t : ℕ) → In x web → t + suc d ≡ (b x).round → quorum f ≤ different (authors_at f b t (reached b x))
  quorum_below zero x t hx e =
      let q = valid-quorum f b (b x) (sound.all_valid x hx) (omega arith) in
      let r : (b x).round - 1 ≡ t = omega arith in
      let q' = subst (λ (u : ℕ). quorum f ≤ different (authors_at f b u (b x).parents)) r q in
      let w =
      different_within (authors_at f b t (b x).parents) (authors_at f b t (reached b x))
      (authors_within f b t (b x).parents (reached b x) (λ z p. reached_parents x x z hx (reached_self b x) p)) in
      omega arith
  quorum_below (suc d) x t hx e =
      let q = valid-quorum f b (b x) (sound.all_valid x hx) (omega arith) in
      let some = quorum_some (today f) in
      let a = some_in (authors_at f b ((b x).round - 1) (b x).parents) (omega arith) in
      let s = authors_in f b ((b x).round - 1) (b x).parents a.0 a.1 in
      let y = s.0 in
      let r = s.2 in
      let ih = quorum_below d y t (sound.closed x y hx s.1) (omega arith) in
      let w =
      different_within (authors_at f b t (reached b y)) (authors_at f b t (reached b x))
      (authors_within f b t (reached b y) (reached b x)
      (λ z p. reached_through x y z hx (reached_parents x x y hx (reached_self b x) s.1) p)) in
      omega arith

  -- from a block one reaches, in each earlier round, a quorum of authors' blocks
  pub reached-quorum : (x t : ℕ) → In x web → t < (b x).round → quorum f ≤ different (authors_at f b t (reached b x))
  reached-quorum x t hx ht = quorum_below ((b x).round - t - 1) x t hx (omega arith)
