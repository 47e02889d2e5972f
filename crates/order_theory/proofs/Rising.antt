-- Lists along which a key rises: two of them that hold the same are one list; what is sorted by rounds and authors rises by its places.
-- Assumes nothing.
use Rattle.std.proofs.Common.{◌≡◌, ℕ, ◌*◌, ◌<◌, ◌&&◌, T, eqb, ltb, List, [], ◌∷◌, sym, refl, ap, ◌∙◌, subst, ⊎_elim, arith, eqb→eq, ltb→lt, lt→ltb, T_not}
use Rattle.model.specs.Names.{distinct}
use Rattle.model.specs.Thresholds.{members}
use Rattle.model.specs.Blocks.{Book}
use Rattle.model.specs.Order.{before, insert, sorted}
use Rattle.model.proofs.Tools.{and_left, and_right, and_both, or_cases, or_left, or_right, cond_cases, eq→eqb, same_or_not}
use Rattle.model.proofs.Lists.{In, Within, in_none, in_here, in_there, in_cons, distinct_none, distinct_cons, distinct_head, distinct_tail}
use Rattle.model.proofs.Webs.{SoundWeb}
use Rattle.model.proofs.InOrder.{in_insert, in_sorted}
use Rattle.order_theory.specs.Tables.{place_of}
use Rattle.order_theory.proofs.Places.{place_alone, place_before, place_from, less_or_not}

-- the key rises along the list
abbrev pub Rises : (ℕ → ℕ) → List ℕ → Type 0
Rises key [] = Unit {0}
Rises key (x ∷ xs) = ((z : ℕ) → In z xs → key x < key z) × Rises key xs

-- Two lists along which the key rises, and that hold the same, are one.
pub rising_same : (key : ℕ → ℕ) (xs ys : List ℕ) → Rises key xs → Rises key ys → Within xs ys → Within ys xs → xs ≡ ys
rising_same key [] [] r s p q = refl
rising_same key [] (y ∷ ys) r s p q = absurd (in_none y (q y (in_here y ys)))
rising_same key (x ∷ xs) [] r s p q = absurd (in_none x (p x (in_here x xs)))
rising_same key (x ∷ xs) (y ∷ ys) r s p q =
    let same : x ≡ y =
    ⊎_elim (λ e. e)
    (λ h. ⊎_elim (λ e. sym e) (λ k. let a = s.0 x h in let c = r.0 y k in absurd (omega arith)) (in_cons y x xs (q y (in_here y ys))))
    (in_cons x y ys (p x (in_here x xs))) in
    let d = ap key same in
    let rest =
    rising_same key xs ys r.1 s.1
    (λ z h. ⊎_elim (λ e. let l = r.0 z h in let c = ap key e in absurd (omega arith)) (λ k. k) (in_cons z y ys (p z (in_there z x xs h))))
    (λ z h. ⊎_elim (λ e. let l = s.0 z h in let c = ap key e in absurd (omega arith)) (λ k. k) (in_cons z x xs (q z (in_there z y ys h)))) in
    ap (λ u. u ∷ xs) same ∙ ap (λ l. y ∷ l) rest

pub rising_distinct : (key : ℕ → ℕ) (xs : List ℕ) → Rises key xs → T (distinct xs)
rising_distinct key [] r = distinct_none
rising_distinct key (x ∷ xs) r = distinct_cons x xs (λ h. let l = r.0 x h in omega arith) (rising_distinct key xs r.1)

module _ {f : ℕ} {b : Book} {web : List ℕ} (sound : SoundWeb f b web) where
  abbrev place : ℕ → ℕ
  place x = place_of (members f) b x

  earlier_place : (x y : ℕ) → In x web → In y web → (b x).round < (b y).round → place x < place y
  earlier_place x y hx hy l =
      let p = place_before sound x (b y).round hx l in
      let q = place_from sound y (b y).round hy (omega arith) in
      omega arith

  before_place : (x y : ℕ) → In x web → In y web → T (before b x y) → place x < place y
  before_place x y hx hy t =
      let r = ltb (b x).round (b y).round in
      let e = eqb (b x).round (b y).round in
      let a = ltb (b x).author (b y).author in
      ⊎_elim (λ h. earlier_place x y hx hy (ltb→lt (b x).round (b y).round h))
      (λ h.
      let d = ap (λ (k : ℕ). k * members f) (eqb→eq (b x).round (b y).round (and_left e a h)) in
      let l = ltb→lt (b x).author (b y).author (and_right e a h) in
      omega arith)
      (or_cases r (e && a) t)

  after_place : (x y : ℕ) → In x web → In y web → (x ≡ y → ⊥) → (T (before b x y) → ⊥) → place y < place x
  after_place x y hx hy n t =
      let r = ltb (b x).round (b y).round in
      let e = eqb (b x).round (b y).round in
      let a = ltb (b x).author (b y).author in
      let apart : place y ≡ place x → ⊥ = λ d. n (sym (place_alone sound y x hy hx d)) in
      ⊎_elim (λ l. absurd (t (or_left r (e && a) (lt→ltb (b x).round (b y).round l))))
      (λ l. ⊎_elim
      (λ d.
      let c = ap (λ (k : ℕ). k * members f) d in
      ⊎_elim
      (λ m. absurd (t (or_right r (e && a) (and_both e a (eq→eqb (b x).round (b y).round d) (lt→ltb (b x).author (b y).author m)))))
      (λ m. omega arith)
      (less_or_not (b x).author (b y).author))
      (λ d. earlier_place y x hy hx (omega arith))
      (same_or_not (b x).round (b y).round))
      (less_or_not (b x).round (b y).round)

  insert_rises : (x : ℕ) (ys : List ℕ) → In x web → Within ys web → (In x ys → ⊥) → Rises place ys → Rises place (insert b x ys)
  unfolding insert
  insert_rises x [] hx w n r = ((λ z h. absurd (in_none z h)), tt)
  insert_rises x (y ∷ ys) hx w n r =
      let hy = w y (in_here y ys) in
      cond_cases (Rises place) (before b x y) (x ∷ y ∷ ys) (y ∷ insert b x ys)
      (λ t.
      let l = before_place x y hx hy t in
      ((λ z h. ⊎_elim (λ e. let d = ap place e in omega arith) (λ k. let m = r.0 z k in omega arith) (in_cons z y ys h)), r))
      (λ t.
      let l = after_place x y hx hy (λ e. n (subst (λ z. In z (y ∷ ys)) (sym e) (in_here y ys))) (T_not (before b x y) t) in (
        (λ z h. ⊎_elim (λ e. let d = ap place e in omega arith) (r.0 z) (in_insert b z x ys h)),
        insert_rises x ys hx (λ z h. w z (in_there z y ys h)) (λ h. n (in_there x y ys h)) r.1,
      ))

  -- What is sorted by rounds and authors rises by places.
  pub sorted_rises : (xs : List ℕ) → Within xs web → T (distinct xs) → Rises place (sorted b xs)
  unfolding sorted
  sorted_rises [] w d = tt
  sorted_rises (x ∷ xs) w d =
      insert_rises x (sorted b xs) (w x (in_here x xs)) (λ z h. w z (in_there z x xs (in_sorted b z xs h)))
      (λ h. distinct_head x xs d (in_sorted b x xs h))
      (sorted_rises xs (λ z h. w z (in_there z x xs h)) (distinct_tail x xs d))
