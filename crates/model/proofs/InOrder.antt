-- What stands in an order: only what is in the web, nothing twice, causes first, and all that an anchor reaches. Assumes nothing.
use mathlib.Core.Path.{◌≡◌, sym, subst}
use mathlib.Core.Bool.{◌&&◌}
use mathlib.Core.List.{List, [], ◌∷◌, ◌++◌}
use mathlib.Core.Logic.{◌⊎◌, inl, inr, ⊎_elim}
use Prim.Native.Nat.{ℕ, ◌≤◌, ◌<◌}
use native.Mathlib.Omega.{arith}
use lib.Dec.{T, eqb, ltb, eqb→eq, T_not, ltb→lt, lt→ltb}
use Rattle.model.specs.Names.{distinct, without}
use Rattle.model.specs.Blocks.{Book}
use Rattle.model.specs.Reach.{reached}
use Rattle.model.specs.Order.{anchors_of, before, insert, sorted, listed, order}
use Rattle.model.proofs.Tools.{or_cases, or_left, and_left, cond_cases, cond-from}
use Rattle.model.proofs.Lists.{In, Within, in_none, in_here, in_there, in_cons, in_or_not, in_append, in_append_left, in_append_right}
use Rattle.model.proofs.Lists.{distinct_head, distinct_tail, distinct_none, distinct_cons, distinct_append, in_without, without_in, distinct_without}
use Rattle.model.proofs.Webs.{SoundWeb}
use Rattle.model.proofs.Reach.{reached_within, reached_through, reached_earlier, reached-distinct}
use Rattle.model.proofs.TwoWebs.{anchors_in_web}

module _ (b : Book) where
  -- ---- sorting keeps the names, lets none stand twice that stood once, and then rounds don't fall
  pub in_insert : (x y : ℕ) (xs : List ℕ) → In x (insert b y xs) → (x ≡ y) ⊎ In x xs
  unfolding insert
  in_insert x y [] t = in_cons x y [] t
  in_insert x y (z ∷ xs) t =
      ⊎_elim (λ p. in_cons x y (z ∷ xs) p.1)
      (λ p. ⊎_elim (λ e. inr (subst (λ w. In x (w ∷ xs)) e (in_here x xs)))
      (λ h. ⊎_elim (λ e. inl e) (λ k. inr (in_there x z xs k)) (in_insert x y xs h))
      (in_cons x z (insert b y xs) p.1))
      (cond-from (In x) (before b y z) (y ∷ z ∷ xs) (z ∷ insert b y xs) t)

  pub insert_here : (y : ℕ) (xs : List ℕ) → In y (insert b y xs)
  unfolding insert
  insert_here y [] = in_here y []
  insert_here y (z ∷ xs) =
      cond_cases (In y) (before b y z) (y ∷ z ∷ xs) (z ∷ insert b y xs) (λ _. in_here y (z ∷ xs))
      (λ _. in_there y z (insert b y xs) (insert_here y xs))

  pub insert_there : (x y : ℕ) (xs : List ℕ) → In x xs → In x (insert b y xs)
  unfolding insert
  insert_there x y [] t = absurd (in_none x t)
  insert_there x y (z ∷ xs) t =
      cond_cases (In x) (before b y z) (y ∷ z ∷ xs) (z ∷ insert b y xs) (λ _. in_there x y (z ∷ xs) t)
      (λ _. ⊎_elim (λ e. subst (λ w. In x (w ∷ insert b y xs)) e (in_here x (insert b y xs)))
      (λ h. in_there x z (insert b y xs) (insert_there x y xs h))
      (in_cons x z xs t))

  pub in_sorted : (x : ℕ) (xs : List ℕ) → In x (sorted b xs) → In x xs
  unfolding sorted
  in_sorted x [] t = t
  in_sorted x (y ∷ xs) t =
      ⊎_elim (λ e. subst (λ w. In x (w ∷ xs)) e (in_here x xs)) (λ h. in_there x y xs (in_sorted x xs h)) (in_insert x y (sorted b xs) t)

  pub sorted_in : (x : ℕ) (xs : List ℕ) → In x xs → In x (sorted b xs)
  unfolding sorted
  sorted_in x [] t = t
  sorted_in x (y ∷ xs) t =
      ⊎_elim (λ e. subst (λ w. In x (insert b w (sorted b xs))) e (insert_here x (sorted b xs)))
      (λ h. insert_there x y (sorted b xs) (sorted_in x xs h))
      (in_cons x y xs t)

  pub distinct-insert : (x : ℕ) (xs : List ℕ) → (In x xs → ⊥) → T (distinct xs) → T (distinct (insert b x xs))
  unfolding insert
  distinct-insert x [] n d = distinct_cons x [] n d
  distinct-insert x (y ∷ xs) n d =
      cond_cases (λ l. T (distinct l)) (before b x y) (x ∷ y ∷ xs) (y ∷ insert b x xs) (λ _. distinct_cons x (y ∷ xs) n d)
      (λ _. distinct_cons y (insert b x xs)
      (λ t. ⊎_elim (λ e. n (subst (λ w. In w (y ∷ xs)) e (in_here y xs))) (distinct_head y xs d) (in_insert y x xs t))
      (distinct-insert x xs (λ t. n (in_there x y xs t)) (distinct_tail y xs d)))

  pub distinct-sorted : (xs : List ℕ) → T (distinct xs) → T (distinct (sorted b xs))
  unfolding sorted
  distinct-sorted [] d = d
  distinct-sorted (x ∷ xs) d =
      distinct-insert x (sorted b xs) (λ t. distinct_head x xs d (in_sorted x xs t)) (distinct-sorted xs (distinct_tail x xs d))

  -- rounds don't fall along the list
  abbrev pub Rising : List ℕ → Type 0
  Rising [] = Unit {0}
  Rising (x ∷ xs) = ((z : ℕ) → In z xs → (b x).round ≤ (b z).round) × Rising xs

  -- what comes before is of no later round; what doesn't, of no earlier
  not_after : (x y : ℕ) → T (before b x y) → (b x).round ≤ (b y).round
  not_after x y t =
      ⊎_elim (λ h. let l = ltb→lt (b x).round (b y).round h in omega arith)
      (λ h. let e = eqb→eq (b x).round (b y).round (and_left (eqb (b x).round (b y).round) (ltb (b x).author (b y).author) h) in omega arith)
      (or_cases (ltb (b x).round (b y).round) (eqb (b x).round (b y).round && ltb (b x).author (b y).author) t)

  not_before : (x y : ℕ) → (T (before b x y) → ⊥) → (b y).round ≤ (b x).round
  not_before x y n =
      let m : (b x).round < (b y).round → ⊥ =
      λ l. n (or_left (ltb (b x).round (b y).round) (eqb (b x).round (b y).round && ltb (b x).author (b y).author)
      (lt→ltb (b x).round (b y).round l)) in
      omega arith

  rising_insert : (x : ℕ) (xs : List ℕ) → Rising xs → Rising (insert b x xs)
  unfolding insert
  rising_insert x [] r = ((λ z t. absurd (in_none z t)), tt)
  rising_insert x (y ∷ xs) r =
      cond_cases Rising (before b x y) (x ∷ y ∷ xs) (y ∷ insert b x xs)
      (λ t. let l = not_after x y t in
      ((λ z k. ⊎_elim (λ e. subst (λ w. (b x).round ≤ (b w).round) (sym e) l) (λ h. let m = r.0 z h in omega arith) (in_cons z y xs k)), r))
      (λ n. let l = not_before x y (T_not (before b x y) n) in
      ((λ z k. ⊎_elim (λ e. subst (λ w. (b y).round ≤ (b w).round) (sym e) l) (r.0 z) (in_insert z x xs k)), rising_insert x xs r.1))

  pub rising_sorted : (xs : List ℕ) → Rising (sorted b xs)
  unfolding sorted
  rising_sorted [] = tt
  rising_sorted (x ∷ xs) = rising_insert x (sorted b xs) (rising_sorted xs)

  -- ---- causes first
  -- what is reached from each name of the list, but itself, stands before it in the list or is in `seen`
  abbrev pub CausesFirst : List ℕ → List ℕ → Type 0
  CausesFirst seen [] = Unit {0}
  CausesFirst seen (x ∷ xs) = ((y : ℕ) → In y (reached b x) → (y ≡ x → ⊥) → In y seen) × CausesFirst (x ∷ seen) xs

  causes_more : (seen more xs : List ℕ) → Within seen more → CausesFirst seen xs → CausesFirst more xs
  causes_more seen more [] w c = tt
  causes_more seen more (x ∷ xs) w c = (
    (λ y h n. w y (c.0 y h n)),
    causes_more (x ∷ seen) (x ∷ more) xs
        (λ y t. ⊎_elim (λ e. subst (λ z. In y (z ∷ more)) e (in_here y more)) (λ h. in_there y x more (w y h)) (in_cons y x seen t)) c.1,
  )

  causes_append : (seen xs ys : List ℕ) → CausesFirst seen xs → CausesFirst (xs ++ seen) ys → CausesFirst seen (xs ++ ys)
  causes_append seen [] ys c d = d
  causes_append seen (x ∷ xs) ys c d =
      (c.0, causes_append (x ∷ seen) xs ys c.1 (causes_more (x ∷ (xs ++ seen)) (xs ++ (x ∷ seen)) ys moved d))
    where
      moved : Within (x ∷ (xs ++ seen)) (xs ++ (x ∷ seen))
      moved y t =
          ⊎_elim (λ e. in_append_right y xs (x ∷ seen) (subst (λ z. In y (z ∷ seen)) e (in_here y seen)))
          (λ h. ⊎_elim (in_append_left y xs (x ∷ seen)) (λ k. in_append_right y xs (x ∷ seen) (in_there y x seen k)) (in_append y xs seen h))
          (in_cons y x (xs ++ seen) t)

  -- read off at one place of the list
  causes_at :
      (seen xs ys : List ℕ) (x y : ℕ) → CausesFirst seen (xs ++ (x ∷ ys)) → In y (reached b x) → (y ≡ x → ⊥) → In y xs ⊎ In y seen
  causes_at seen [] ys x y c h n = inr (c.0 y h n)
  causes_at seen (z ∷ xs) ys x y c h n =
      ⊎_elim (λ k. inl (in_there y z xs k))
      (λ k. ⊎_elim (λ e. inl (subst (λ w. In y (w ∷ xs)) e (in_here y xs))) (λ q. inr q) (in_cons y z seen k))
      (causes_at (z ∷ seen) xs ys x y c.1 h n)

  -- where rounds don't fall and causes are of earlier rounds, causes stand first
  causes_rising :
      (seen xs : List ℕ) → Rising xs →
      ((x y : ℕ) → In x xs → In y (reached b x) → (y ≡ x → ⊥) → In y seen ⊎ (In y xs × ((b y).round < (b x).round))) → CausesFirst seen xs
  causes_rising seen [] r h = tt
  causes_rising seen (x ∷ xs) r h = (first, causes_rising (x ∷ seen) xs r.1 later)
    where
      first : (y : ℕ) → In y (reached b x) → (y ≡ x → ⊥) → In y seen
      first y k n =
          ⊎_elim (λ q. q)
          (λ q. ⊎_elim (λ e. absurd (n e)) (λ p. let l = r.0 y p in let m = q.1 in absurd (omega arith)) (in_cons y x xs q.0))
          (h x y (in_here x xs) k n)

      later : (z y : ℕ) → In z xs → In y (reached b z) → (y ≡ z → ⊥) → In y (x ∷ seen) ⊎ (In y xs × ((b y).round < (b z).round))
      later z y t k n =
          ⊎_elim (λ q. inl (in_there y x seen q))
          (λ q. ⊎_elim (λ e. inl (subst (λ w. In y (w ∷ seen)) e (in_here y seen))) (λ p. inr (p, q.1)) (in_cons y x xs q.0))
          (h z y (in_there z x xs t) k n)

  -- ---- what is listed anchor by anchor
  -- an anchor's stretch: what it reaches and isn't listed yet
  pub in_stretch : (done : List ℕ) (a x : ℕ) → In x (sorted b (without done (reached b a))) → In x (reached b a) × (In x done → ⊥)
  in_stretch done a x t = in_without x done (reached b a) (in_sorted x (without done (reached b a)) t)

  -- all that an anchor reaches is listed after its stretch
  pub stretched : (done : List ℕ) (a x : ℕ) → In x (reached b a) → In x done ⊎ In x (sorted b (without done (reached b a)))
  stretched done a x t =
      ⊎_elim (λ h. inl h) (λ n. inr (sorted_in x (without done (reached b a)) (without_in x done (reached b a) t n))) (in_or_not x done)

  -- listing goes on: what is done stays, all that an anchor reaches comes in, nothing else does, and nothing twice
  listed_grows : (done anchors : List ℕ) → Within done (listed b done anchors)
  unfolding listed
  listed_grows done [] x t = t
  listed_grows done (a ∷ anchors) x t =
      let stretch = sorted b (without done (reached b a)) in listed_grows (done ++ stretch) anchors x (in_append_left x done stretch t)

  listed-reached : (done anchors : List ℕ) (a x : ℕ) → In a anchors → In x (reached b a) → In x (listed b done anchors)
  unfolding listed
  listed-reached done [] a x t h = absurd (in_none a t)
  listed-reached done (c ∷ anchors) a x t h =
      let stretch = sorted b (without done (reached b c)) in
      ⊎_elim
      (λ e. listed_grows (done ++ stretch) anchors x
      (⊎_elim (in_append_left x done stretch) (in_append_right x done stretch) (stretched done c x (subst (λ w. In x (reached b w)) e h))))
      (λ k. listed-reached (done ++ stretch) anchors a x k h)
      (in_cons a c anchors t)

  listed_within :
      (web done anchors : List ℕ) → Within done web → ((a : ℕ) → In a anchors → Within (reached b a) web) → Within (listed b done anchors) web
  unfolding listed
  listed_within web done [] w h = w
  listed_within web done (a ∷ anchors) w h =
      let stretch = sorted b (without done (reached b a)) in
      listed_within web (done ++ stretch) anchors
      (λ x t. ⊎_elim (w x) (λ k. h a (in_here a anchors) x (in_stretch done a x k).0) (in_append x done stretch t))
      (λ c k. h c (in_there c a anchors k))

  listed-distinct :
      (done anchors : List ℕ) → T (distinct done) → ((a : ℕ) → In a anchors → T (distinct (reached b a))) → T (distinct (listed b done anchors))
  unfolding listed
  listed-distinct done [] d h = d
  listed-distinct done (a ∷ anchors) d h =
      let rest = without done (reached b a) in
      listed-distinct (done ++ sorted b rest) anchors
      (distinct_append done (sorted b rest) d (distinct-sorted rest (distinct_without done (reached b a) (h a (in_here a anchors))))
      (λ x t k. (in_stretch done a x k).1 t))
      (λ c k. h c (in_there c a anchors k))

module _ {f : ℕ} {b : Book} {web : List ℕ} (sound : SoundWeb f b web) where
  -- only what is in the web is in the order
  pub order_in_web : Within (order f b web) web
  unfolding order
  order_in_web =
      listed_within b web [] (anchors_of f b web) (λ x t. absurd (in_none x t))
      (λ a k. reached_within b web sound.closed a (anchors_in_web f b web a k))

  -- nothing stands twice in the order
  pub order-distinct : T (distinct (order f b web))
  unfolding order
  order-distinct = listed-distinct b [] (anchors_of f b web) distinct_none (λ a k. reached-distinct sound a (anchors_in_web f b web a k))

  -- each anchor's stretch keeps causes first: what a block of it reaches is done already or, of an earlier round, stands before it in the stretch
  listed_causes :
      (done anchors : List ℕ) → CausesFirst b [] done → Within anchors web → CausesFirst b [] (listed b done anchors)
  unfolding listed
  listed_causes done [] c w = c
  listed_causes done (a ∷ anchors) c w =
      listed_causes (done ++ stretch) anchors (causes_append b [] done stretch c stretch-causes) (λ x t. w x (in_there x a anchors t))
    where
      stretch : List ℕ
      stretch = sorted b (without done (reached b a))

      ha : In a web
      ha = w a (in_here a anchors)

      cause : (x y : ℕ) → In x stretch → In y (reached b x) → (y ≡ x → ⊥) → In y (done ++ []) ⊎ (In y stretch × ((b y).round < (b x).round))
      cause x y t h n =
          let hx : In x (reached b a) = (in_stretch b done a x t).0 in
          ⊎_elim (λ k. inl (in_append_left y done [] k))
          (λ k. inr (
            k,
            ⊎_elim (λ e. absurd (n e)) (λ l. l) (reached_earlier sound x y (reached_within b web sound.closed a ha x hx) h),
          ))
          (stretched b done a y (reached_through sound a x y ha hx h))

      stretch-causes : CausesFirst b (done ++ []) stretch
      stretch-causes = causes_rising b (done ++ []) stretch (rising_sorted b (without done (reached b a))) cause

  -- what is reached from a block stands before it
  pub order_causes :
      (xs ys : List ℕ) (x y : ℕ) → order f b web ≡ xs ++ (x ∷ ys) → In y (reached b x) → (y ≡ x → ⊥) → In y xs
  unfolding order
  order_causes xs ys x y e h n =
      ⊎_elim (λ k. k) (λ k. absurd (in_none y k))
      (causes_at b [] xs ys x y (subst (CausesFirst b []) e (listed_causes [] (anchors_of f b web) tt (anchors_in_web f b web))) h n)

  -- all that an anchor reaches is in the order
  pub anchor_listed : (x y : ℕ) → In x (anchors_of f b web) → In y (reached b x) → In y (order f b web)
  unfolding order
  anchor_listed x y hx hy = listed-reached b [] (anchors_of f b web) x y hx hy
