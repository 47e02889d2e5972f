-- That a world doesn't change when its book grows: it rests only on the blocks whose names its events speak of, and on what these build on.
-- Assumes nothing.
use Rattle.std.proofs.Common.{◌≡◌, ℕ, ◌-◌, ◌<◌, ◌≤◌, Bool, cond, not, ◌&&◌, ◌||◌, T, eqb, ltb, leb, List, [], ◌∷◌, sym, refl, ap, ◌∙◌, subst, ap₂, arith, ltb→lt, lt→ltb}
use Rattle.model.specs.Names.{is_in, all_in, distinct, different, all_below}
use Rattle.model.specs.Thresholds.{members, quorum}
use Rattle.model.specs.Blocks.{Block, Book, authors_at, all_earlier, valid}
use Rattle.model.specs.Member.{Member, rival, signable, takable, makable, after_sign, after_take, after_make}
use Rattle.model.specs.World.{Event, Makes, Signs, Takes, Forges, World, member_at, good, genuine, certified, signers, step, start, world, with_member, with_signature, with_made}
use Rattle.model.proofs.Tools.{and_left, and_right, and_both, cond_cases, cond-else, not_eqb}
use Rattle.model.proofs.Worlds.{changed, new_at}
use Rattle.rehearsal.specs.Books.{name_of, about_below, SameBelow}

below_head : (n x : ℕ) (xs : List ℕ) → T (all_below n (x ∷ xs)) → x < n
unfolding all_below
below_head n x xs t = ltb→lt x n (and_left (ltb x n) (all_below n xs) t)

below_tail : (n x : ℕ) (xs : List ℕ) → T (all_below n (x ∷ xs)) → T (all_below n xs)
unfolding all_below
below_tail n x xs t = and_right (ltb x n) (all_below n xs) t

below_cons : (n x : ℕ) (xs : List ℕ) → x < n → T (all_below n xs) → T (all_below n (x ∷ xs))
unfolding all_below
below_cons n x xs h t = and_both (ltb x n) (all_below n xs) (lt→ltb x n h) t

module _ (n : ℕ) (b c : Book) (agree : SameBelow n b c) where
  authors_same : (f r : ℕ) (xs : List ℕ) → T (all_below n xs) → authors_at f b r xs ≡ authors_at f c r xs
  unfolding authors_at
  authors_same f r [] t = refl
  authors_same f r (x ∷ xs) t =
      ap₂ (λ (k : Block) (rest : List ℕ). cond (eqb k.round r && ltb k.author (members f)) (k.author ∷ rest) rest)
      (agree.same x (below_head n x xs t)) (authors_same f r xs (below_tail n x xs t))

  earlier_same : (r : ℕ) (xs : List ℕ) → T (all_below n xs) → all_earlier b r xs ≡ all_earlier c r xs
  unfolding all_earlier
  earlier_same r [] t = refl
  earlier_same r (x ∷ xs) t =
      ap₂ (λ (k : Block) (rest : Bool). ltb k.round r && rest) (agree.same x (below_head n x xs t)) (earlier_same r xs (below_tail n x xs t))

  pub valid_same : (f x : ℕ) → x < n → valid f b (b x) ≡ valid f c (c x)
  unfolding valid
  valid_same f x h =
      let k = b x in
      let parents = agree.closed x h in
      ap₂ (λ (early : Bool) (authors : List ℕ). ltb k.author (members f) && distinct k.parents && early
      && (eqb k.round 0 || leb (quorum f) (different authors)))
      (earlier_same k.round k.parents parents) (authors_same f (k.round - 1) k.parents parents)
      ∙ ap (valid f c) (agree.same x h)

  rival-same : (x : ℕ) (ys : List ℕ) → x < n → T (all_below n ys) → rival b x ys ≡ rival c x ys
  unfolding rival
  rival-same x [] h t = refl
  rival-same x (y ∷ ys) h t =
      ap₂ (λ (k : Block) (l : Block). (not (eqb x y) && eqb k.author l.author && eqb k.round l.round) || rival b x ys)
      (agree.same x h) (agree.same y (below_head n y ys t))
      ∙ ap (λ rest. (not (eqb x y) && eqb (c x).author (c y).author && eqb (c x).round (c y).round) || rest)
      (rival-same x ys h (below_tail n y ys t))

  parents_same : (x : ℕ) → x < n → (b x).parents ≡ (c x).parents
  parents_same x h = ap (λ (k : Block). k.parents) (agree.same x h)

  pub makable-same : (f i x : ℕ) (m : Member) → x < n → makable f b i x m ≡ makable f c i x m
  makable-same f i x m h =
      ap₂ (λ (v : Bool) (k : Block). v && eqb k.author i && eqb k.round m.round && all_in k.parents m.web) (valid_same f x h) (agree.same x h)

  pub signable-same : (f x : ℕ) (bad : ℕ → Bool) (w : World) (m : Member) → x < n → T (all_below n m.signed) →
      signable f b (genuine b bad x w) x m ≡ signable f c (genuine c bad x w) x m
  signable-same f x bad w m h signed =
      ap₂ (λ (v : Bool) (k : Block). v && (bad k.author || is_in x w.made) && not (rival b x m.signed)) (valid_same f x h) (agree.same x h)
      ∙ ap (λ (r : Bool). valid f c (c x) && genuine c bad x w && not r) (rival-same x m.signed h signed)

  pub takable-same : (x : ℕ) (sure : Bool) (m : Member) → x < n → T (all_below n m.web) → takable b sure x m ≡ takable c sure x m
  takable-same x sure m h web =
      ap₂ (λ (ps : List ℕ) (r : Bool). sure && all_in ps m.web && not (is_in x m.web) && not r) (parents_same x h) (rival-same x m.web h web)

-- all names in what the world holds are below n
pub record NamesBelow (n : ℕ) (w : World) : Type 0 where
  pub webs : (i : ℕ) → T (all_below n (member_at i w).web)
  pub signed : (i : ℕ) → T (all_below n (member_at i w).signed)
  pub made : T (all_below n w.made)
  pub unsigned : (x : ℕ) → n ≤ x → signers x w.signatures ≡ []

below_start : (n f : ℕ) → NamesBelow n (start f)
unfolding all_below signers
below_start n f = record {
  webs = λ i. subst (λ (m : Member). T (all_below n m.web)) (sym (new_at (members f) i)) tt;
  signed = λ i. subst (λ (m : Member). T (all_below n m.signed)) (sym (new_at (members f) i)) tt;
  made = tt;
  unsigned = λ x h. refl;
}

module _ (n i x : ℕ) (w : World) (h : x < n) (p : NamesBelow n w) where
  below_makes : NamesBelow n (with_made x (with_member i (after_make (member_at i w)) w))
  below_makes = record {
    webs = changed (λ j m. T (all_below n m.web)) i (after_make (member_at i w)) w (p.webs i) p.webs;
    signed = changed (λ j m. T (all_below n m.signed)) i (after_make (member_at i w)) w (p.signed i) p.signed;
    made = below_cons n x w.made h p.made;
    unsigned = p.unsigned;
  }

  below_takes : NamesBelow n (with_member i (after_take x (member_at i w)) w)
  below_takes = record {
    webs = changed (λ j m. T (all_below n m.web)) i (after_take x (member_at i w)) w (below_cons n x (member_at i w).web h (p.webs i)) p.webs;
    signed = changed (λ j m. T (all_below n m.signed)) i (after_take x (member_at i w)) w (p.signed i) p.signed;
    made = p.made;
    unsigned = p.unsigned;
  }

  below_signature : NamesBelow n (with_signature i x w)
  unfolding signers
  below_signature = record {
    webs = p.webs;
    signed = p.signed;
    made = p.made;
    unsigned = λ y k. cond-else (eqb y x) (i ∷ signers y w.signatures) (signers y w.signatures) (not_eqb y x (λ e. omega arith)) ∙ p.unsigned y k;
  }

  below_sign : NamesBelow n (with_member i (after_sign x (member_at i w)) w)
  below_sign = record {
    webs = changed (λ j m. T (all_below n m.web)) i (after_sign x (member_at i w)) w (p.webs i) p.webs;
    signed = changed (λ j m. T (all_below n m.signed)) i (after_sign x (member_at i w)) w
        (cond_cases (λ (l : List ℕ). T (all_below n l)) (is_in x (member_at i w).signed) (member_at i w).signed (x ∷ (member_at i w).signed)
        (λ _. p.signed i) (λ _. below_cons n x (member_at i w).signed h (p.signed i))) p.signed;
    made = p.made;
    unsigned = p.unsigned;
  }

pub below_step : (n f : ℕ) (b : Book) (bad : ℕ → Bool) (e : Event) (w : World) → name_of e < n → NamesBelow n w → NamesBelow n (step f b bad e w)
below_step n f b bad (Makes i x) w h p =
    cond_cases (NamesBelow n) (good f bad i && makable f b i x (member_at i w)) (with_made x (with_member i (after_make (member_at i w)) w)) w
    (λ _. below_makes n i x w h p) (λ _. p)
below_step n f b bad (Signs i x) w h p =
    cond_cases (NamesBelow n) (good f bad i && signable f b (genuine b bad x w) x (member_at i w))
    (with_signature i x (with_member i (after_sign x (member_at i w)) w)) w
    (λ _. below_signature n i x (with_member i (after_sign x (member_at i w)) w) h (below_sign n i x w h p)) (λ _. p)
below_step n f b bad (Takes i x) w h p =
    cond_cases (NamesBelow n) (good f bad i && takable b (certified f x w) x (member_at i w)) (with_member i (after_take x (member_at i w)) w) w
    (λ _. below_takes n i x w h p) (λ _. p)
below_step n f b bad (Forges i x) w h p =
    cond_cases (NamesBelow n) (ltb i (members f) && bad i) (with_signature i x w) w (λ _. below_signature n i x w h p) (λ _. p)

about_head : (n : ℕ) (e : Event) (es : List Event) → T (about_below n (e ∷ es)) → name_of e < n
unfolding about_below
about_head n e es t = ltb→lt (name_of e) n (and_left (ltb (name_of e) n) (about_below n es) t)

about_tail : (n : ℕ) (e : Event) (es : List Event) → T (about_below n (e ∷ es)) → T (about_below n es)
unfolding about_below
about_tail n e es t = and_right (ltb (name_of e) n) (about_below n es) t

-- events about names below n leave only such names
pub names_below : (n f : ℕ) (b : Book) (bad : ℕ → Bool) (es : List Event) → T (about_below n es) → NamesBelow n (world f b bad es)
unfolding world
names_below n f b bad [] t = below_start n f
names_below n f b bad (e ∷ es) t =
    below_step n f b bad e (world f b bad es) (about_head n e es t) (names_below n f b bad es (about_tail n e es t))

module _ (n : ℕ) (b c : Book) (agree : SameBelow n b c) (f : ℕ) (bad : ℕ → Bool) where
  step_same : (e : Event) (w : World) → name_of e < n → NamesBelow n w → step f b bad e w ≡ step f c bad e w
  step_same (Makes i x) w h p =
      ap (λ (t : Bool). cond (good f bad i && t) (with_made x (with_member i (after_make (member_at i w)) w)) w) (makable-same n b c agree f i x (member_at i w) h)
  step_same (Signs i x) w h p =
      ap (λ (t : Bool). cond (good f bad i && t) (with_signature i x (with_member i (after_sign x (member_at i w)) w)) w)
      (signable-same n b c agree f x bad w (member_at i w) h (p.signed i))
  step_same (Takes i x) w h p =
      ap (λ (t : Bool). cond (good f bad i && t) (with_member i (after_take x (member_at i w)) w) w)
      (takable-same n b c agree x (certified f x w) (member_at i w) h (p.webs i))
  step_same (Forges i x) w h p = refl

  -- THE WORLD OF EVENTS ABOUT NAMES BELOW n IS THE SAME in two books that agree below n
  pub world_same : (es : List Event) → T (about_below n es) → world f b bad es ≡ world f c bad es
  unfolding world
  world_same [] t = refl
  world_same (e ∷ es) t =
      step_same e (world f b bad es) (about_head n e es t) (names_below n f b bad es (about_tail n e es t))
      ∙ ap (step f c bad e) (world_same es (about_tail n e es t))
