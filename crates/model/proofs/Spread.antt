-- Good members can bring all that they made, and all that any of them holds, into every good member's web, without making anything.
-- Assumes that at most f members are bad.
use mathlib.Core.Path.{sym, subst}
use mathlib.Core.Bool.{Bool, ◌&&◌, not}
use mathlib.Core.List.{List, [], ◌∷◌}
use mathlib.Core.Logic.{⊎_elim}
use Prim.Native.Nat.{ℕ, zero, suc, ◌<◌}
use native.Mathlib.Omega.{arith}
use lib.Dec.{T, ltb, T_not, not_T, lt→ltb, le→leb}
use Rattle.model.specs.Names.{is_in, all_in, different}
use Rattle.model.specs.Thresholds.{members, quorum, Few}
use Rattle.model.specs.Blocks.{Book, valid}
use Rattle.model.specs.Member.{rival, signable}
use Rattle.model.specs.World.{Event, member_at, good, signers, certified, genuine, world, web_of}
use Rattle.model.proofs.Tools.{and_right, and_both, or_cases, or_right, decided, same_or_not}
use Rattle.model.proofs.Lists.{In, Within, in_here, in_there, in_none, in_cons, in_or_not, all_in_lem}
use Rattle.model.proofs.Thresholds.{today, good_make_quorum}
use Rattle.model.proofs.Worlds.{always_sound, Behind, stays_certified, certified_alone, rivals_none, good_member}
use Rattle.model.proofs.Steps.{Can, already, and_then, for_each, after_grown, quiet_then, sign_one, take_one}

-- ---- the numbers below n, so that something can be done for each member
unfoldable pub numbers : ℕ → List ℕ
numbers zero = []
numbers (suc n) = n ∷ numbers n

pub in_numbers : (n i : ℕ) → i < n → In i (numbers n)
unfolding numbers
in_numbers zero i h = absurd (omega arith)
in_numbers (suc n) i h =
    ⊎_elim (λ e. subst (λ k. In i (k ∷ numbers n)) e (in_here i (numbers n)))
    (λ d. in_there i n (numbers n) (in_numbers n i (omega arith)))
    (same_or_not i n)

pub numbers_below : (n i : ℕ) → In i (numbers n) → i < n
unfolding numbers
numbers_below zero i t = absurd (in_none i t)
numbers_below (suc n) i t = ⊎_elim (λ e. omega arith) (λ h. let ih = numbers_below n i h in omega arith) (in_cons i n (numbers n) t)

module _ (f : ℕ) (b : Book) (bad : ℕ → Bool) where
  -- every good member has taken in all that good members made
  abbrev pub AllHave : List Event → Type 0
  AllHave es = (x : ℕ) → In x (world f b bad es).made → (j : ℕ) → T (good f bad j) → In x (web_of f b bad j es)

module _ (f : ℕ) (b : Book) (bad : ℕ → Bool) (few : Few f bad) where
  -- a good member may sign what a good member made: a rival that it signed would be made, too
  signs_made :
      (es : List Event) (i x : ℕ) → T (good f bad i) → In x (world f b bad es).made →
      T (signable f b (genuine b bad x (world f b bad es)) x (member_at i (world f b bad es)))
  signs_made es i x gi hx =
      let w = world f b bad es in
      let s = always_sound f b bad es in
      let v = valid f b (b x) in
      let g = genuine b bad x w in
      and_both (v && g) (not (rival b x (member_at i w).signed))
      (and_both v g (s.made_valid x hx) (or_right (bad (b x).author) (is_in x w.made) hx))
      (rivals_none b x (member_at i w).signed
      (λ y hy ea er.
      ⊎_elim
      (λ is-bad.
      absurd
      (T_not (bad (b x).author) (and_right (ltb (b x).author (members f)) (not (bad (b x).author)) (s.made_good x hx))
      (subst (λ a. T (bad a)) (sym ea) is-bad)))
      (λ made. s.made_alone x y hx made ea er)
      (or_cases (bad (b y).author) (is_in y w.made) (s.signed_genuine i y gi hy))))

  -- what was made can be certified
  pub certify : (es : List Event) (x : ℕ) → In x (world f b bad es).made → Can f b bad es (λ es'. T (certified f x (world f b bad es')))
  certify es x hx =
      and_then
      (for_each (λ i es'. T (good f bad i) → In i (signers x (world f b bad es').signatures))
      (λ i es₁ es₂ q h g. (after_grown q.way).signatures x i (h g)) (numbers (members f)) es
      (λ i _ es' q.
      ⊎_elim
      (λ g. and_then
      (sign_one f b bad es' i x g (signs_made es' i x g (subst (In x) (sym q.made_same) hx)))
      (λ es'' _ h. already es'' (λ _. h)))
      (λ n. already es' (λ g. absurd (T_not (good f bad i) n g)))
      (decided (good f bad i))))
      (λ es' _ all. already es'
      (le→leb (quorum f) (different (signers x (world f b bad es').signatures))
      (good_make_quorum (today f) bad few (signers x (world f b bad es').signatures)
      (λ i h n. all i (in_numbers (members f) i h) (and_both (ltb i (members f)) (not (bad i)) (lt→ltb i (members f) h) n)))))

  -- a certified block can be taken in on its parents
  pub take-certified :
      (es : List Event) (j x : ℕ) → T (good f bad j) → T (certified f x (world f b bad es)) → Within (b x).parents (web_of f b bad j es) →
      Can f b bad es (λ es'. In x (web_of f b bad j es'))
  take-certified es j x gj c ps =
      let web = web_of f b bad j es in
      ⊎_elim (λ h. already es h)
      (λ n.
      take_one f b bad es j x gj
      (and_both (certified f x (world f b bad es) && all_in (b x).parents web && not (is_in x web)) (not (rival b x web))
      (and_both (certified f x (world f b bad es) && all_in (b x).parents web) (not (is_in x web))
      (and_both (certified f x (world f b bad es)) (all_in (b x).parents web) c (all_in_lem (b x).parents web ps))
      (not_T (is_in x web) n))
      (rivals_none b x web (λ y hy ea er. certified_alone f b bad few es x y c ((always_sound f b bad es).web_certified j y gj hy) ea er))))
      (in_or_not x web)

  -- a list of certified blocks, each after its parents, can be taken in, the oldest first
  take_list :
      (j : ℕ) → T (good f bad j) → (xs : List ℕ) → Behind b xs → (es : List Event) → ((x : ℕ) → In x xs → T (certified f x (world f b bad es))) →
      Can f b bad es (λ es'. Within xs (web_of f b bad j es'))
  take_list j gj [] p es c = already es (λ x t. absurd (in_none x t))
  take_list j gj (x ∷ xs) p es c =
      and_then (take_list j gj xs p.1 es (λ y t. c y (in_there y x xs t)))
      (λ es₁ q₁ has.
      and_then
      (take-certified es₁ j x gj (stays_certified f (world f b bad es) (world f b bad es₁) x (after_grown q₁.way) (c x (in_here x xs)))
      (λ y t. has y (p.0 y t)))
      (λ es₂ q₂ h. already es₂
      (λ y t. ⊎_elim (λ e. subst (λ z. In z (web_of f b bad j es₂)) (sym e) h) (λ k. (after_grown q₂.way).web j y (has y k)) (in_cons y x xs t))))

  -- every good member can take in every good member's web
  pub share :
      (es : List Event) →
      Can f b bad es (λ es'. (j : ℕ) → In j (numbers (members f)) → T (good f bad j) → (i : ℕ) → In i (numbers (members f)) → T (good f bad i) → Within (web_of f b bad i es) (web_of f b bad j es'))
  share es =
      for_each
      (λ j es'. T (good f bad j) → (i : ℕ) → In i (numbers (members f)) → T (good f bad i) → Within (web_of f b bad i es) (web_of f b bad j es'))
      (λ j es₁ es₂ q h gj i ti gi y t. (after_grown q.way).web j y (h gj i ti gi y t)) (numbers (members f)) es
      (λ j _ es₁ q₁.
      ⊎_elim
      (λ gj. and_then
      (for_each (λ i es'. T (good f bad i) → Within (web_of f b bad i es) (web_of f b bad j es'))
      (λ i es₂ es₃ q h gi y t. (after_grown q.way).web j y (h gi y t)) (numbers (members f)) es₁
      (λ i _ es₂ q₂.
      ⊎_elim
      (λ gi. and_then
      (take_list j gj (web_of f b bad i es) ((always_sound f b bad es).web_behind i gi) es₂
      (λ y t. stays_certified f (world f b bad es) (world f b bad es₂) y
      (after_grown (quiet_then q₁ q₂).way) ((always_sound f b bad es).web_certified i y gi t)))
      (λ es₃ _ h. already es₃ (λ _. h)))
      (λ n. already es₂ (λ gi. absurd (T_not (good f bad i) n gi)))
      (decided (good f bad i))))
      (λ es₃ _ h. already es₃ (λ _. h)))
      (λ n. already es₁ (λ gj. absurd (T_not (good f bad j) n gj)))
      (decided (good f bad j)))

  -- All that good members made can be in every good member's web.
  pub spread : (es : List Event) → Can f b bad es (AllHave f b bad)
  spread es =
      let made = (world f b bad es).made in
      and_then
      (for_each (λ x es'. T (certified f x (world f b bad es')))
      (λ x es₁ es₂ q c. stays_certified f (world f b bad es₁) (world f b bad es₂) x (after_grown q.way) c) made es
      (λ x hx es' q. certify es' x (subst (In x) (sym q.made_same) hx)))
      (λ es₁ q₁ cert.
      and_then (share es₁)
      (λ es₂ q₂ shared.
      let q₁₂ = quiet_then q₁ q₂ in
      and_then
      (for_each (λ x es'. (j : ℕ) → In j (numbers (members f)) → T (good f bad j) → In x (web_of f b bad j es'))
      (λ x es₃ es₄ q h j tj gj. (after_grown q.way).web j x (h j tj gj)) made es₂
      (λ x hx es₃ q₃.
      for_each (λ j es'. T (good f bad j) → In x (web_of f b bad j es')) (λ j es₄ es₅ q h gj. (after_grown q.way).web j x (h gj))
      (numbers (members f)) es₃
      (λ j tj es₄ q₄.
      let q₂₄ = quiet_then q₃ q₄ in
      let q₁₄ = quiet_then q₂ q₂₄ in
      let s = always_sound f b bad es in
      let author = (b x).author in
      let ga = s.made_good x hx in
      let ta = in_numbers (members f) author (good_member f bad author ga) in
      ⊎_elim
      (λ gj. and_then
      (take-certified es₄ j x gj (stays_certified f (world f b bad es₁) (world f b bad es₄) x (after_grown q₁₄.way) (cert x hx))
      (λ y t. (after_grown q₂₄.way).web j y (shared j tj gj author ta ga y ((after_grown q₁.way).web author y (s.made_parents x hx y t)))))
      (λ es₅ _ h. already es₅ (λ _. h)))
      (λ n. already es₄ (λ gj. absurd (T_not (good f bad j) n gj)))
      (decided (good f bad j)))))
      (λ es₃ q₃ all. already es₃
      (λ x hx j gj.
      all x (subst (In x) (quiet_then q₁₂ q₃).made_same hx) j
      (in_numbers (members f) j (good_member f bad j gj)) gj))))
