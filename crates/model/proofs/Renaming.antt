-- Every program numbers its blocks in its own way, and the numbers don't matter: whatever is read off a renamed web is the renamed thing that is
-- read off the web. Assumes nothing.
use mathlib.Core.Path.{◌≡◌, refl, ap, ap₂, sym, subst, ◌∙◌}
use mathlib.Core.Bool.{Bool, cond, ◌&&◌, ◌||◌}
use mathlib.Core.List.{List, [], ◌∷◌, ◌++◌, map, map-append}
use mathlib.Core.Logic.{⊎_elim}
use Prim.Native.Nat.{ℕ, zero, suc, ◌+◌, ◌*◌, ◌/◌}
use lib.Dec.{eqb, ltb, leb, eqb→eq}
use Rattle.model.specs.Names.{is_in, union, without}
use Rattle.model.specs.Thresholds.{needed_votes}
use Rattle.model.specs.Blocks.{Book}
use Rattle.model.specs.Reach.{parents_of, back, reached}
use Rattle.model.specs.Order.{Sought, Missing, Found, leader, leader_block, votes_for, has_votes, last_voted, last_round}
use Rattle.model.specs.Order.{anchors_to, anchors_from, anchors_of, before, insert, sorted, listed, order}
use Rattle.model.specs.Renaming.{Closed, Renames, NamesDontMatter}
use Rattle.model.proofs.Tools.{same_test, eq→eqb, cond_cases, cond-under}
use Rattle.model.proofs.Lists.{In, Within, in_none, in_here, in_there, in_single, in_all, in_union, in_append, in_without}
use Rattle.model.proofs.Reach.{reached_within}
use Rattle.model.proofs.TwoWebs.{leader_block_is, anchors_in_web}
use Rattle.model.proofs.InOrder.{in_sorted, in_stretch}

-- a choice by the same test between the images of two things is the image of the choice
cond-image {ℓ κ} :
    {A : Type ℓ} {B : Type κ} (g : A → B) {c c' : Bool} {v w : A} {v' w' : B} → c' ≡ c → v' ≡ g v → w' ≡ g w → cond c' v' w' ≡ g (cond c v w)
cond-image g {c} {c'} {v} {w} {v'} {w'} p q r = (λ i. cond (p i) (q i) (r i)) ∙ sym (cond-under g c v w)

-- what was looked for, renamed
abbrev moved : (ℕ → ℕ) → Sought → Sought
moved ρ Missing = Missing
moved ρ (Found x) = Found (ρ x)

-- a step back to the anchor before x, with g for what comes before each
abbrev step_back : (ℕ → List ℕ) → List ℕ → ℕ → Sought → List ℕ
step_back g reach x s = elim s [ Missing ↦ g x | Found y ↦ cond (is_in y reach) (g y ++ (x ∷ [])) (g x) ]

module _ {b c : Book} {ρ : ℕ → ℕ} {web : List ℕ} (closed : Closed b web) (ren : Renames ρ b c web) where
  -- ---- names and blocks: a block keeps its author and round, and its parents are renamed
  same_name : (x y : ℕ) → In x web → In y web → eqb (ρ x) (ρ y) ≡ eqb x y
  same_name x y hx hy =
      same_test (eqb (ρ x) (ρ y)) (eqb x y) (λ t. eq→eqb x y (ren.apart x y hx hy (eqb→eq (ρ x) (ρ y) t)))
      (λ t. eq→eqb (ρ x) (ρ y) (ap ρ (eqb→eq x y t)))

  same_author : (x : ℕ) → In x web → (c (ρ x)).author ≡ (b x).author
  same_author x h = ap (λ k. k.author) (ren.carried x h)

  same_round : (x : ℕ) → In x web → (c (ρ x)).round ≡ (b x).round
  same_round x h = ap (λ k. k.round) (ren.carried x h)

  renamed_parents : (x : ℕ) → In x web → (c (ρ x)).parents ≡ map ρ (b x).parents
  renamed_parents x h = ap (λ k. k.parents) (ren.carried x h)

  parents_in_web : (x y : ℕ) → In x web → In y (b x).parents → In y web
  parents_in_web x y h = in_all (b x).parents web (closed x h) y

  first_in : (x : ℕ) (xs : List ℕ) → Within (x ∷ xs) web → In x web
  first_in x xs w = w x (in_here x xs)

  rest_in : (x : ℕ) (xs : List ℕ) → Within (x ∷ xs) web → Within xs web
  rest_in x xs w y t = w y (in_there y x xs t)

  -- ---- lists of names within the web, where no two names become one
  map-is_in : (x : ℕ) (xs : List ℕ) → In x web → Within xs web → is_in (ρ x) (map ρ xs) ≡ is_in x xs
  unfolding is_in
  map-is_in x [] h w = refl
  map-is_in x (y ∷ xs) h w = ap₂ ◌||◌ (same_name x y h (first_in y xs w)) (map-is_in x xs h (rest_in y xs w))

  map-union : (xs ys : List ℕ) → Within xs web → Within ys web → union (map ρ xs) (map ρ ys) ≡ map ρ (union xs ys)
  unfolding union
  map-union [] ys v w = refl
  map-union (x ∷ xs) ys v w =
      let ih = map-union xs ys (rest_in x xs v) w in cond-image (map ρ) (map-is_in x ys (first_in x xs v) w) ih (ap (λ l. ρ x ∷ l) ih)

  map-without : (done xs : List ℕ) → Within done web → Within xs web → without (map ρ done) (map ρ xs) ≡ map ρ (without done xs)
  unfolding without
  map-without done [] v w = refl
  map-without done (x ∷ xs) v w =
      let ih = map-without done xs v (rest_in x xs w) in cond-image (map ρ) (map-is_in x done (first_in x xs w) v) ih (ap (λ l. ρ x ∷ l) ih)

  -- ---- reaching
  union_in_web : (xs ys : List ℕ) → Within xs web → Within ys web → Within (union xs ys) web
  union_in_web xs ys v w x t = ⊎_elim (v x) (w x) (in_union x xs ys t)

  parents_of_in_web : (xs : List ℕ) → Within xs web → Within (parents_of b xs) web
  unfolding parents_of
  parents_of_in_web [] w = w
  parents_of_in_web (x ∷ xs) w =
      union_in_web (b x).parents (parents_of b xs) (λ y. parents_in_web x y (first_in x xs w)) (parents_of_in_web xs (rest_in x xs w))

  map-parents_of : (xs : List ℕ) → Within xs web → parents_of c (map ρ xs) ≡ map ρ (parents_of b xs)
  unfolding parents_of
  map-parents_of [] w = refl
  map-parents_of (x ∷ xs) w =
      ap₂ union (renamed_parents x (first_in x xs w)) (map-parents_of xs (rest_in x xs w))
      ∙ map-union (b x).parents (parents_of b xs) (λ y. parents_in_web x y (first_in x xs w)) (parents_of_in_web xs (rest_in x xs w))

  map_back : (n : ℕ) (xs : List ℕ) → Within xs web → back c n (map ρ xs) ≡ map ρ (back b n xs)
  unfolding back
  map_back zero xs w = refl
  map_back (suc n) xs w =
      ap (back c n) (ap (λ l. union l (map ρ xs)) (map-parents_of xs w) ∙ map-union (parents_of b xs) xs (parents_of_in_web xs w) w)
      ∙ map_back n (union (parents_of b xs) xs) (union_in_web (parents_of b xs) xs (parents_of_in_web xs w) w)

  map-reached : (x : ℕ) → In x web → reached c (ρ x) ≡ map ρ (reached b x)
  unfolding reached
  map-reached x h =
      ap (λ n. back c n (ρ x ∷ [])) (same_round x h)
      ∙ map_back (b x).round (x ∷ []) (λ y t. subst (λ z. In z web) (sym (in_single y x t)) h)

  reached_in_web : (x : ℕ) → In x web → Within (reached b x) web
  reached_in_web = reached_within b web parents_in_web

  -- ---- leaders and votes
  map-leader_block : (f r : ℕ) (xs : List ℕ) → Within xs web → leader_block f c r (map ρ xs) ≡ moved ρ (leader_block f b r xs)
  unfolding leader_block
  map-leader_block f r [] w = refl
  map-leader_block f r (x ∷ xs) w =
      let h = first_in x xs w in
      cond-image (moved ρ) (ap₂ (λ m n. eqb m r && eqb n (leader f r)) (same_round x h) (same_author x h)) refl
      (map-leader_block f r xs (rest_in x xs w))

  same_votes : (x : ℕ) (ys : List ℕ) → In x web → Within ys web → votes_for c (ρ x) (map ρ ys) ≡ votes_for b x ys
  unfolding votes_for
  same_votes x [] h w = refl
  same_votes x (y ∷ ys) h w =
      let k = first_in y ys w in
      let ih = same_votes x ys h (rest_in y ys w) in
      cond-image (λ n. n)
      (ap₂ ◌&&◌ (ap₂ (λ m n. eqb m (n + 1)) (same_round y k) (same_round x h))
      (ap (is_in (ρ x)) (renamed_parents y k) ∙ map-is_in x (b y).parents h (λ z. parents_in_web y z k)))
      (ap suc ih) ih

  -- if a block was found, it is in the web
  abbrev SoughtIn : Sought → Type 0
  SoughtIn Missing = Unit {0}
  SoughtIn (Found x) = In x web

  leader_block_in_web : (f r : ℕ) → SoughtIn (leader_block f b r web)
  leader_block_in_web f r = go (leader_block f b r web) refl
    where
      go : (s : Sought) → leader_block f b r web ≡ s → SoughtIn s
      go Missing e = tt
      go (Found x) e = (leader_block_is f b r web x e).0

  same-has_votes : (f : ℕ) (s : Sought) → SoughtIn s → has_votes f c (map ρ web) (moved ρ s) ≡ has_votes f b web s
  same-has_votes f Missing h = refl
  same-has_votes f (Found x) h = ap (leb (needed_votes f)) (same_votes x web h (λ y t. t))

  map-last_voted : (f k : ℕ) → last_voted f c (map ρ web) k ≡ moved ρ (last_voted f b web k)
  unfolding last_voted
  map-last_voted f zero = refl
  map-last_voted f (suc k) =
      let l = leader_block f b (2 * k) web in
      let e = map-leader_block f (2 * k) web (λ y t. t) in
      cond-image (moved ρ) (ap (has_votes f c (map ρ web)) e ∙ same-has_votes f l (leader_block_in_web f (2 * k))) e (map-last_voted f k)

  last_voted_in_web : (f k : ℕ) → SoughtIn (last_voted f b web k)
  unfolding last_voted
  last_voted_in_web f zero = tt
  last_voted_in_web f (suc k) =
      let l = leader_block f b (2 * k) web in
      cond_cases SoughtIn (has_votes f b web l) l (last_voted f b web k) (λ _. leader_block_in_web f (2 * k)) (λ _. last_voted_in_web f k)

  same-last_round : (xs : List ℕ) → Within xs web → last_round c (map ρ xs) ≡ last_round b xs
  unfolding last_round
  same-last_round [] w = refl
  same-last_round (x ∷ xs) w =
      let e = same_round x (first_in x xs w) in
      let ih = same-last_round xs (rest_in x xs w) in
      cond-image (λ n. n) (ap₂ ltb ih e) e ih

  -- ---- anchors
  map_step_back :
      (g g' : ℕ → List ℕ) → ((y : ℕ) → In y web → g' (ρ y) ≡ map ρ (g y)) → (x : ℕ) → In x web → (s : Sought) → SoughtIn s →
      step_back g' (reached c (ρ x)) (ρ x) (moved ρ s) ≡ map ρ (step_back g (reached b x) x s)
  map_step_back g g' e x h Missing k = e x h
  map_step_back g g' e x h (Found y) k =
      cond-image (map ρ) (ap (is_in (ρ y)) (map-reached x h) ∙ map-is_in y (reached b x) k (reached_in_web x h))
      (ap (λ l. l ++ (ρ x ∷ [])) (e y k) ∙ sym (map-append ρ (g y) (x ∷ []))) (e x h)

  map-anchors_to : (f k x : ℕ) → In x web → anchors_to f c (map ρ web) k (ρ x) ≡ map ρ (anchors_to f b web k x)
  unfolding anchors_to
  map-anchors_to f zero x h = refl
  map-anchors_to f (suc k) x h =
      ap (step_back (anchors_to f c (map ρ web) k) (reached c (ρ x)) (ρ x)) (map-leader_block f (2 * k) web (λ y t. t))
      ∙ map_step_back (anchors_to f b web k) (anchors_to f c (map ρ web) k) (map-anchors_to f k) x h (leader_block f b (2 * k) web)
      (leader_block_in_web f (2 * k))

  map-anchors_from : (f : ℕ) (s : Sought) → SoughtIn s → anchors_from f c (map ρ web) (moved ρ s) ≡ map ρ (anchors_from f b web s)
  map-anchors_from f Missing h = refl
  map-anchors_from f (Found x) h =
      ap (λ r. anchors_to f c (map ρ web) (r / 2) (ρ x)) (same_round x h) ∙ map-anchors_to f ((b x).round / 2) x h

  map-anchors_of : (f : ℕ) → anchors_of f c (map ρ web) ≡ map ρ (anchors_of f b web)
  unfolding anchors_of
  map-anchors_of f =
      let n = last_round b web / 2 + 1 in
      ap (anchors_from f c (map ρ web)) (ap (λ r. last_voted f c (map ρ web) (r / 2 + 1)) (same-last_round web (λ y t. t)) ∙ map-last_voted f n)
      ∙ map-anchors_from f (last_voted f b web n) (last_voted_in_web f n)

  -- ---- the order
  same-before : (x y : ℕ) → In x web → In y web → before c (ρ x) (ρ y) ≡ before b x y
  same-before x y hx hy = λ i.
      let r = same_round x hx i in let s = same_round y hy i in ltb r s || (eqb r s && ltb (same_author x hx i) (same_author y hy i))

  map-insert : (x : ℕ) (xs : List ℕ) → In x web → Within xs web → insert c (ρ x) (map ρ xs) ≡ map ρ (insert b x xs)
  unfolding insert
  map-insert x [] h w = refl
  map-insert x (y ∷ xs) h w =
      cond-image (map ρ) (same-before x y h (first_in y xs w)) refl (ap (λ l. ρ y ∷ l) (map-insert x xs h (rest_in y xs w)))

  map-sorted : (xs : List ℕ) → Within xs web → sorted c (map ρ xs) ≡ map ρ (sorted b xs)
  unfolding sorted
  map-sorted [] w = refl
  map-sorted (x ∷ xs) w =
      let v = rest_in x xs w in
      ap (insert c (ρ x)) (map-sorted xs v) ∙ map-insert x (sorted b xs) (first_in x xs w) (λ y t. v y (in_sorted b y xs t))

  map-listed : (done anchors : List ℕ) → Within done web → Within anchors web → listed c (map ρ done) (map ρ anchors) ≡ map ρ (listed b done anchors)
  unfolding listed
  map-listed done [] v w = refl
  map-listed done (a ∷ anchors) v w =
      ap (λ l. listed c l (map ρ anchors)) longer ∙ map-listed (done ++ stretch) anchors longer-in-web (rest_in a anchors w)
    where
      ha : In a web
      ha = first_in a anchors w

      rest : List ℕ
      rest = without done (reached b a)

      stretch : List ℕ
      stretch = sorted b rest

      longer : map ρ done ++ sorted c (without (map ρ done) (reached c (ρ a))) ≡ map ρ (done ++ stretch)
      longer =
          ap (λ l. map ρ done ++ sorted c l) (ap (without (map ρ done)) (map-reached a ha) ∙ map-without done (reached b a) v (reached_in_web a ha))
          ∙ (ap (λ l. map ρ done ++ l) (map-sorted rest (λ x t. reached_in_web a ha x (in_without x done (reached b a) t).0))
          ∙ sym (map-append ρ done stretch))

      longer-in-web : Within (done ++ stretch) web
      longer-in-web x t = ⊎_elim (v x) (λ k. reached_in_web a ha x (in_stretch b done a x k).0) (in_append x done stretch t)

-- the order of the renamed web is the renamed order
pub names_dont_matter : NamesDontMatter
unfolding order
names_dont_matter f b c ρ web closed ren =
    ap (listed c []) (map-anchors_of closed ren f)
    ∙ map-listed closed ren [] (anchors_of f b web) (λ x t. absurd (in_none x t)) (anchors_in_web f b web)
