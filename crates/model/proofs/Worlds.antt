-- What holds in every world, whatever happened: one record of facts, kept by every event; and that webs, made blocks, signatures and rounds only
-- grow. Assumes nothing.
use mathlib.Core.Path.{◌≡◌, refl, ap, sym, subst, ◌∙◌}
use mathlib.Core.Bool.{Bool, ◌&&◌, not}
use mathlib.Core.List.{List, [], ◌∷◌, ◌++◌}
use mathlib.Core.Logic.{◌⊎◌, inl, inr, ⊎_elim}
use Prim.Native.Nat.{ℕ, zero, suc, ◌≤◌, ◌<◌}
use native.Mathlib.Omega.{arith}
use lib.Dec.{T, not_T, eqb, ltb, eqb→eq, eqb_refl, T_not, ltb→lt, lt→ltb, leb→le, le→leb, nltb→le}
use lib.ListN.{length, get_or, length-set}
use lib.Seq.{get_or-set_same, get_or-set_other, set_out}
use Rattle.model.specs.Names.{is_in, all_in, different, distinct}
use Rattle.model.specs.Thresholds.{members, quorum, Few}
use Rattle.model.specs.Blocks.{Book, valid}
use Rattle.model.specs.Member.{Member, new_member, rival, signable, takable, makable, after_sign, after_take, after_make}
use Rattle.model.specs.World.{World, new_members, start, member_at, good, signers, certified, genuine, with_member, with_signature, with_made}
use Rattle.model.specs.World.{Event, Makes, Signs, Takes, Forges, step, world, web_of}
use Rattle.model.proofs.Tools.{and_left, and_right, and_both, or_cases, or_left, or_right, decided}
use Rattle.model.proofs.Tools.{cond_cases, cond-from, same_or_not, eq→eqb, not_eqb}
use Rattle.model.proofs.Lists.{In, Within, in_none, in_here, in_there, in_cons, in_all, distinct_none, distinct_cons, different_within}
use Rattle.model.proofs.Thresholds.{today, quorums_share_good, quorum-has-good}
use Rattle.model.proofs.Webs.{SoundWeb, Compatible}

-- each block's parents stand behind it in the list
abbrev pub Behind : Book → List ℕ → Type 0
Behind b [] = Unit {0}
Behind b (x ∷ xs) = Within (b x).parents xs × Behind b xs

-- a list in which each block's parents stand behind it holds the parents of what it holds
pub behind_closed : (b : Book) (web : List ℕ) → Behind b web → (x : ℕ) → In x web → Within (b x).parents web
behind_closed b [] h x t = absurd (in_none x t)
behind_closed b (z ∷ web) h x t =
    ⊎_elim (λ e y k. in_there y z web (h.0 y (subst (λ v. In y (b v).parents) e k)))
    (λ o y k. in_there y z web (behind_closed b web h.1 x o y k))
    (in_cons x z web t)

pub record Sound (f : ℕ) (b : Book) (bad : ℕ → Bool) (w : World) : Type 0 where
  pub size : length w.all ≡ members f
  -- a good member's signatures are of what it signed; only members sign
  pub signed_given : (i x : ℕ) → T (good f bad i) → In x (member_at i w).signed → In i (signers x w.signatures)
  pub given_signed : (i x : ℕ) → T (good f bad i) → In i (signers x w.signatures) → In x (member_at i w).signed
  pub signers-members : (i x : ℕ) → In i (signers x w.signatures) → i < members f
  -- what a good member signed: valid, genuine, no two of one author and round
  pub signed_valid : (i x : ℕ) → T (good f bad i) → In x (member_at i w).signed → T (valid f b (b x))
  pub signed_genuine : (i x : ℕ) → T (good f bad i) → In x (member_at i w).signed → T (genuine b bad x w)
  pub signed_alone :
      (i x y : ℕ) → T (good f bad i) → In x (member_at i w).signed → In y (member_at i w).signed → (b x).author ≡ (b y).author → (b x).round ≡ (b y).round → x ≡ y
  -- what was made: valid, by good members, of rounds below their next ones, on their webs; one for each author and round
  pub made_valid : (x : ℕ) → In x w.made → T (valid f b (b x))
  pub made_good : (x : ℕ) → In x w.made → T (good f bad (b x).author)
  pub made_round : (x : ℕ) → In x w.made → (b x).round < (member_at (b x).author w).round
  pub made_parents : (x : ℕ) → In x w.made → Within (b x).parents (member_at (b x).author w).web
  pub made_alone : (x y : ℕ) → In x w.made → In y w.made → (b x).author ≡ (b y).author → (b x).round ≡ (b y).round → x ≡ y
  pub made_all :
      (i r : ℕ) → T (good f bad i) → r < (member_at i w).round → (x : ℕ) × In x w.made × ((b x).author ≡ i) × ((b x).round ≡ r)
  -- a good member's web: each block certified, once, after its parents, no two of one author and round
  pub web_once : (i : ℕ) → T (good f bad i) → T (distinct (member_at i w).web)
  pub web_certified : (i x : ℕ) → T (good f bad i) → In x (member_at i w).web → T (certified f x w)
  pub web_behind : (i : ℕ) → T (good f bad i) → Behind b (member_at i w).web
  pub web_alone :
      (i x y : ℕ) → T (good f bad i) → In x (member_at i w).web → In y (member_at i w).web → (b x).author ≡ (b y).author → (b x).round ≡ (b y).round → x ≡ y

-- ---- one member changed
-- what holds of the new member, and of all as they were, holds of all
pub changed :
    (P : ℕ → Member → Type 0) (i : ℕ) (m : Member) (w : World) → P i m → ((j : ℕ) → P j (member_at j w)) → (j : ℕ) → P j (member_at j (with_member i m w))
changed P i m w new old j =
    ⊎_elim
    (λ e.
    subst (λ k. P k (member_at k (with_member i m w))) (sym e)
    (⊎_elim (λ t. subst (P i) (sym (get_or-set_same w.all i m new_member (ltb→lt i (length w.all) t))) new)
    (λ n. subst (λ l. P i (get_or l i new_member)) (sym (set_out w.all i m (nltb→le i (length w.all) n))) (old i))
    (decided (ltb i (length w.all)))))
    (λ n. subst (P j) (sym (get_or-set_other w.all i j m new_member n)) (old j))
    (same_or_not j i)

pub changed_here : (i : ℕ) (m : Member) (w : World) → i < length w.all → member_at i (with_member i m w) ≡ m
changed_here i m w h = get_or-set_same w.all i m new_member h

-- a part of the member that is as it was, is so for all
pub kept :
    {A : Type 0} (part : Member → A) (i : ℕ) (m : Member) (w : World) → part m ≡ part (member_at i w) → (j : ℕ) →
    part (member_at j (with_member i m w)) ≡ part (member_at j w)
kept part i m w e = changed (λ j n. part n ≡ part (member_at j w)) i m w e (λ j. refl)

-- ---- one signature more
pub signed_now : (i x : ℕ) (w : World) → In i (signers x (with_signature i x w).signatures)
unfolding signers
signed_now i x w =
    let old = signers x w.signatures in
    cond_cases (In i) (eqb x x) (i ∷ old) old (λ _. in_here i old) (λ n. absurd (T_not (eqb x x) n (eqb_refl x)))

pub signed_before : (i x : ℕ) (w : World) (y : ℕ) → Within (signers y w.signatures) (signers y (with_signature i x w).signatures)
unfolding signers
signed_before i x w y j t =
    let old = signers y w.signatures in
    cond_cases (In j) (eqb y x) (i ∷ old) old (λ _. in_there j i old t) (λ _. t)

pub signed_when :
    (i x : ℕ) (w : World) (j y : ℕ) → In j (signers y (with_signature i x w).signatures) → ((j ≡ i) × (y ≡ x)) ⊎ In j (signers y w.signatures)
unfolding signers
signed_when i x w j y t =
    let old = signers y w.signatures in
    ⊎_elim (λ p. ⊎_elim (λ e. inl (e, eqb→eq y x p.0)) (λ h. inr h) (in_cons j i old p.1)) (λ p. inr p.1)
    (cond-from (In j) (eqb y x) (i ∷ old) old t)

-- ---- no two of one author and round
abbrev pub Alone : Book → List ℕ → Type 0
Alone b xs = (x y : ℕ) → In x xs → In y xs → (b x).author ≡ (b y).author → (b x).round ≡ (b y).round → x ≡ y

-- another block of x's author and round in the list is a rival
pub rival_found :
    (b : Book) (x : ℕ) (ys : List ℕ) (y : ℕ) → In y ys → (x ≡ y → ⊥) → (b x).author ≡ (b y).author → (b x).round ≡ (b y).round → T (rival b x ys)
unfolding rival
rival_found b x [] y t n a r = absurd (in_none y t)
rival_found b x (z ∷ ys) y t n a r =
    let test : ℕ → Bool = λ z. not (eqb x z) && eqb (b x).author (b z).author && eqb (b x).round (b z).round in
    ⊎_elim
    (λ e.
    or_left (test z) (rival b x ys)
    (subst (λ z. T (test z)) e
    (and_both (not (eqb x y) && eqb (b x).author (b y).author) (eqb (b x).round (b y).round)
    (and_both (not (eqb x y)) (eqb (b x).author (b y).author) (not_eqb x y n) (eq→eqb (b x).author (b y).author a))
    (eq→eqb (b x).round (b y).round r))))
    (λ h. or_right (test z) (rival b x ys) (rival_found b x ys y h n a r))
    (in_cons y z ys t)

-- and a rival is such a block
pub rival_is :
    (b : Book) (x : ℕ) (ys : List ℕ) → T (rival b x ys) →
    (y : ℕ) × In y ys × (x ≡ y → ⊥) × ((b x).author ≡ (b y).author) × ((b x).round ≡ (b y).round)
unfolding rival
rival_is b x [] t = absurd t
rival_is b x (z ∷ ys) t =
    ⊎_elim
    (λ c.
    let l = and_left (not (eqb x z) && eqb (b x).author (b z).author) (eqb (b x).round (b z).round) c in (
      z,
      in_here z ys,
      λ e. T_not (eqb x z) (and_left (not (eqb x z)) (eqb (b x).author (b z).author) l) (eq→eqb x z e),
      eqb→eq (b x).author (b z).author (and_right (not (eqb x z)) (eqb (b x).author (b z).author) l),
      eqb→eq (b x).round (b z).round (and_right (not (eqb x z) && eqb (b x).author (b z).author) (eqb (b x).round (b z).round) c),
    ))
    (λ h. let r = rival_is b x ys h in (r.0, in_there r.0 z ys r.1, r.2, r.3, r.4))
    (or_cases (not (eqb x z) && eqb (b x).author (b z).author && eqb (b x).round (b z).round) (rival b x ys) t)

-- where every block of x's author and round is x, there is no rival
pub rivals_none :
    (b : Book) (x : ℕ) (ys : List ℕ) → ((y : ℕ) → In y ys → (b x).author ≡ (b y).author → (b x).round ≡ (b y).round → x ≡ y) → T (not (rival b x ys))
rivals_none b x ys h = not_T (rival b x ys) (λ t. let s = rival_is b x ys t in s.2 (h s.0 s.1 s.3 s.4))

pub no_rival :
    (b : Book) (x : ℕ) (ys : List ℕ) → T (not (rival b x ys)) → (y : ℕ) → In y ys → (b x).author ≡ (b y).author → (b x).round ≡ (b y).round → x ≡ y
no_rival b x ys n y t a r =
    ⊎_elim (λ e. e) (λ apart. absurd (T_not (rival b x ys) n (rival_found b x ys y t apart a r))) (same_or_not x y)

pub alone_cons :
    (b : Book) (x : ℕ) (xs : List ℕ) → ((y : ℕ) → In y xs → (b x).author ≡ (b y).author → (b x).round ≡ (b y).round → x ≡ y) → Alone b xs → Alone b (x ∷ xs)
alone_cons b x xs new alone y z hy hz a r =
    ⊎_elim
    (λ ey.
    let ax : (b x).author ≡ (b z).author = subst (λ v. (b v).author ≡ (b z).author) ey a in
    let rx : (b x).round ≡ (b z).round = subst (λ v. (b v).round ≡ (b z).round) ey r in
    ⊎_elim (λ ez. ey ∙ sym ez) (λ tz. ey ∙ new z tz ax rx) (in_cons z x xs hz))
    (λ ty.
    ⊎_elim
    (λ ez.
    sym (ez ∙ new y ty (subst (λ v. (b v).author ≡ (b y).author) ez (sym a)) (subst (λ v. (b v).round ≡ (b y).round) ez (sym r))))
    (λ tz. alone y z ty tz a r)
    (in_cons z x xs hz))
    (in_cons y x xs hy)

-- what was there stays
pub record Grown (w w' : World) : Type 0 where
  pub web : (i : ℕ) → Within (member_at i w).web (member_at i w').web
  pub signed : (i : ℕ) → Within (member_at i w).signed (member_at i w').signed
  pub made : Within w.made w'.made
  pub signatures : (x : ℕ) → Within (signers x w.signatures) (signers x w'.signatures)
  pub round : (i : ℕ) → (member_at i w).round ≤ (member_at i w').round

pub grown_itself : (w : World) → Grown w w
grown_itself w =
    record { web = λ i x t. t; signed = λ i x t. t; made = λ x t. t; signatures = λ x i t. t; round = λ i. omega arith }

pub grown_twice : (u v w : World) → Grown u v → Grown v w → Grown u w
grown_twice u v w g h =
    record {
      web = λ i x t. h.web i x (g.web i x t);
      signed = λ i x t. h.signed i x (g.signed i x t);
      made = λ x t. h.made x (g.made x t);
      signatures = λ x i t. h.signatures x i (g.signatures x i t);
      round = λ i. let l = g.round i in let m = h.round i in omega arith;
    }

pub grown_member :
    (i : ℕ) (m : Member) (w : World) → Within (member_at i w).web m.web → Within (member_at i w).signed m.signed →
    (member_at i w).round ≤ m.round → Grown w (with_member i m w)
grown_member i m w hw hs hr =
    record {
      web = changed (λ j n. Within (member_at j w).web n.web) i m w hw (λ j x t. t);
      signed = changed (λ j n. Within (member_at j w).signed n.signed) i m w hs (λ j x t. t);
      made = λ x t. t;
      signatures = λ x j t. t;
      round = changed (λ j n. (member_at j w).round ≤ n.round) i m w hr (λ j. omega arith);
    }

pub grown_signature : (i x : ℕ) (w : World) → Grown w (with_signature i x w)
grown_signature i x w =
    record { web = λ j y t. t; signed = λ j y t. t; made = λ y t. t; signatures = signed_before i x w; round = λ j. omega arith }

pub grown_made : (x : ℕ) (w : World) → Grown w (with_made x w)
grown_made x w =
    record { web = λ j y t. t; signed = λ j y t. t; made = λ y t. in_there y x w.made t; signatures = λ y j t. t; round = λ j. omega arith }

-- ---- what a member may do, taken apart
pub makable_is :
    (f : ℕ) (b : Book) (i x : ℕ) (m : Member) → T (makable f b i x m) →
    T (valid f b (b x)) × ((b x).author ≡ i) × ((b x).round ≡ m.round) × Within (b x).parents m.web
makable_is f b i x m t =
    let is_valid = valid f b (b x) in
    let own = eqb (b x).author i in
    let next = eqb (b x).round m.round in
    let on_web = all_in (b x).parents m.web in
    let t2 = and_left (is_valid && own && next) on_web t in
    let t1 = and_left (is_valid && own) next t2 in (
      and_left is_valid own t1,
      eqb→eq (b x).author i (and_right is_valid own t1),
      eqb→eq (b x).round m.round (and_right (is_valid && own) next t2),
      in_all (b x).parents m.web (and_right (is_valid && own && next) on_web t),
    )

pub signable_is :
    (f : ℕ) (b : Book) (is_genuine : Bool) (x : ℕ) (m : Member) → T (signable f b is_genuine x m) →
    T (valid f b (b x)) × T is_genuine × T (not (rival b x m.signed))
signable_is f b is_genuine x m t =
    let is_valid = valid f b (b x) in
    let no_rival = not (rival b x m.signed) in
    let t1 = and_left (is_valid && is_genuine) no_rival t in
    (and_left is_valid is_genuine t1, and_right is_valid is_genuine t1, and_right (is_valid && is_genuine) no_rival t)

pub takable_is :
    (b : Book) (is_certified : Bool) (x : ℕ) (m : Member) → T (takable b is_certified x m) →
    T is_certified × Within (b x).parents m.web × (In x m.web → ⊥) × T (not (rival b x m.web))
takable_is b is_certified x m t =
    let on_web = all_in (b x).parents m.web in
    let new = not (is_in x m.web) in
    let no_rival = not (rival b x m.web) in
    let t2 = and_left (is_certified && on_web && new) no_rival t in
    let t1 = and_left (is_certified && on_web) new t2 in (
      and_left is_certified on_web t1,
      in_all (b x).parents m.web (and_right is_certified on_web t1),
      T_not (is_in x m.web) (and_right (is_certified && on_web) new t2),
      and_right (is_certified && on_web && new) no_rival t,
    )

-- after signing: what was signed, and x
pub signs_it : (x : ℕ) (m : Member) → In x (after_sign x m).signed
signs_it x m = cond_cases (In x) (is_in x m.signed) m.signed (x ∷ m.signed) (λ t. t) (λ _. in_here x m.signed)

pub signs_more : (x : ℕ) (m : Member) → Within m.signed (after_sign x m).signed
signs_more x m y t = cond_cases (In y) (is_in x m.signed) m.signed (x ∷ m.signed) (λ _. t) (λ _. in_there y x m.signed t)

pub signs_no_more : (x : ℕ) (m : Member) (y : ℕ) → In y (after_sign x m).signed → (y ≡ x) ⊎ In y m.signed
signs_no_more x m y t =
    ⊎_elim (λ p. inr p.1) (λ p. in_cons y x m.signed p.1) (cond-from (In y) (is_in x m.signed) m.signed (x ∷ m.signed) t)

-- ---- every event lets the world grow
abbrev pub after_makes : ℕ → ℕ → World → World
after_makes i x w = with_made x (with_member i (after_make (member_at i w)) w)

abbrev pub after_signs : ℕ → ℕ → World → World
after_signs i x w = with_signature i x (with_member i (after_sign x (member_at i w)) w)

abbrev pub after_takes : ℕ → ℕ → World → World
after_takes i x w = with_member i (after_take x (member_at i w)) w

pub grown_makes : (i x : ℕ) (w : World) → Grown w (after_makes i x w)
grown_makes i x w =
    let m = member_at i w in
    let w' = with_member i (after_make m) w in
    grown_twice w w' (with_made x w') (grown_member i (after_make m) w (λ y t. t) (λ y t. t) (omega arith)) (grown_made x w')

pub grown_signs : (i x : ℕ) (w : World) → Grown w (after_signs i x w)
grown_signs i x w =
    let m = member_at i w in
    let w' = with_member i (after_sign x m) w in
    grown_twice w w' (with_signature i x w') (grown_member i (after_sign x m) w (λ y t. t) (signs_more x m) (omega arith)) (grown_signature i x w')

pub grown_takes : (i x : ℕ) (w : World) → Grown w (after_takes i x w)
grown_takes i x w = let m = member_at i w in grown_member i (after_take x m) w (λ y t. in_there y x m.web t) (λ y t. t) (omega arith)

pub grown_step : (f : ℕ) (b : Book) (bad : ℕ → Bool) (e : Event) (w : World) → Grown w (step f b bad e w)
grown_step f b bad (Makes i x) w =
    cond_cases (Grown w) (good f bad i && makable f b i x (member_at i w)) (after_makes i x w) w (λ _. grown_makes i x w) (λ _. grown_itself w)
grown_step f b bad (Signs i x) w =
    cond_cases (Grown w) (good f bad i && signable f b (genuine b bad x w) x (member_at i w)) (after_signs i x w) w (λ _. grown_signs i x w)
    (λ _. grown_itself w)
grown_step f b bad (Takes i x) w =
    cond_cases (Grown w) (good f bad i && takable b (certified f x w) x (member_at i w)) (after_takes i x w) w (λ _. grown_takes i x w)
    (λ _. grown_itself w)
grown_step f b bad (Forges i x) w =
    cond_cases (Grown w) (ltb i (members f) && bad i) (with_signature i x w) w (λ _. grown_signature i x w) (λ _. grown_itself w)

pub only_grows : (f : ℕ) (b : Book) (bad : ℕ → Bool) (ds es : List Event) → Grown (world f b bad es) (world f b bad (ds ++ es))
unfolding world
only_grows f b bad [] es = grown_itself (world f b bad es)
only_grows f b bad (d ∷ ds) es =
    let w = world f b bad (ds ++ es) in
    grown_twice (world f b bad es) w (step f b bad d w) (only_grows f b bad ds es) (grown_step f b bad d w)

-- what is certified stays so
pub stays_certified : (f : ℕ) (w w' : World) (x : ℕ) → Grown w w' → T (certified f x w) → T (certified f x w')
stays_certified f w w' x g c =
    let ss = signers x w.signatures in
    let ss' = signers x w'.signatures in
    let enough = leb→le (quorum f) (different ss) c in
    let more = different_within ss ss' (g.signatures x) in
    le→leb (quorum f) (different ss') (omega arith)

-- what is genuine stays so
pub stays_genuine : (b : Book) (bad : ℕ → Bool) (w w' : World) (x : ℕ) → Grown w w' → T (genuine b bad x w) → T (genuine b bad x w')
stays_genuine b bad w w' x g t =
    let by_bad = bad (b x).author in
    ⊎_elim (λ h. or_left by_bad (is_in x w'.made) h) (λ h. or_right by_bad (is_in x w'.made) (g.made x h)) (or_cases by_bad (is_in x w.made) t)

-- ---- the world at the start is sound, and every event keeps it so
pub good_member : (f : ℕ) (bad : ℕ → Bool) (i : ℕ) → T (good f bad i) → i < members f
good_member f bad i g = ltb→lt i (members f) (and_left (ltb i (members f)) (not (bad i)) g)

pub good_not_bad : (f : ℕ) (bad : ℕ → Bool) (i : ℕ) → T (good f bad i) → T (not (bad i))
good_not_bad f bad i g = and_right (ltb i (members f)) (not (bad i)) g

pub new_size : (n : ℕ) → length (new_members n) ≡ n
unfolding new_members
new_size zero = refl
new_size (suc n) = ap suc (new_size n)

pub new_at : (n i : ℕ) → get_or (new_members n) i new_member ≡ new_member
unfolding new_members
new_at zero i = refl
new_at (suc n) zero = refl
new_at (suc n) (suc i) = new_at n i

sound_start : (f : ℕ) (b : Book) (bad : ℕ → Bool) → Sound f b bad (start f)
unfolding signers
sound_start f b bad =
    record {
      size = new_size (members f);
      signed_given = λ i x g h. absurd (no_signed i x h);
      given_signed = λ i x g h. absurd (in_none i h);
      signers-members = λ i x h. absurd (in_none i h);
      signed_valid = λ i x g h. absurd (no_signed i x h);
      signed_genuine = λ i x g h. absurd (no_signed i x h);
      signed_alone = λ i x y g h. absurd (no_signed i x h);
      made_valid = λ x h. absurd (in_none x h);
      made_good = λ x h. absurd (in_none x h);
      made_round = λ x h. absurd (in_none x h);
      made_parents = λ x h. absurd (in_none x h);
      made_alone = λ x y h. absurd (in_none x h);
      made_all = λ i r g h. let l : r < 0 = subst (λ m. r < m.round) (new_at (members f) i) h in absurd (omega arith);
      web_once = λ i g. subst (λ m. T (distinct m.web)) (sym (new_at (members f) i)) distinct_none;
      web_certified = λ i x g h. absurd (no-web i x h);
      web_behind = λ i g. subst (λ m. Behind b m.web) (sym (new_at (members f) i)) tt;
      web_alone = λ i x y g h. absurd (no-web i x h);
    }
  where
    no_signed : (i x : ℕ) → In x (member_at i (start f)).signed → ⊥
    no_signed i x h = in_none x (subst (λ m. In x m.signed) (new_at (members f) i) h)

    no-web : (i x : ℕ) → In x (member_at i (start f)).web → ⊥
    no-web i x h = in_none x (subst (λ m. In x m.web) (new_at (members f) i) h)

module _ {f : ℕ} {b : Book} {bad : ℕ → Bool} {w : World} (s : Sound f b bad w) where
  there : (i : ℕ) → T (good f bad i) → i < length w.all
  there i g = subst (λ n. i < n) (sym s.size) (good_member f bad i g)

  -- what a member made is of a round below its next one
  made_before : (i x : ℕ) → In x w.made → (b x).author ≡ i → (b x).round < (member_at i w).round
  made_before i x h e = subst (λ k. (b x).round < (member_at k w).round) e (s.made_round x h)

  sound_makes : (i x : ℕ) → T (good f bad i) → T (makable f b i x (member_at i w)) → Sound f b bad (after_makes i x w)
  sound_makes i x g t =
      let m = member_at i w in
      let m' = after_make m in
      let w' = after_makes i x w in
      let grown = grown_makes i x w in
      let may = makable_is f b i x m t in
      let author : (b x).author ≡ i = may.1 in
      let round : (b x).round ≡ m.round = may.2 in
      let signed : (j : ℕ) → (member_at j w').signed ≡ (member_at j w).signed = kept (λ n. n.signed) i m' w refl in
      let web : (j : ℕ) → (member_at j w').web ≡ (member_at j w).web = kept (λ n. n.web) i m' w refl in
      record {
        size = length-set w.all i m' ∙ s.size;
        signed_given = λ j y h k. s.signed_given j y h (subst (In y) (signed j) k);
        given_signed = λ j y h k. grown.signed j y (s.given_signed j y h k);
        signers-members = s.signers-members;
        signed_valid = λ j y h k. s.signed_valid j y h (subst (In y) (signed j) k);
        signed_genuine = λ j y h k. stays_genuine b bad w w' y grown (s.signed_genuine j y h (subst (In y) (signed j) k));
        signed_alone = λ j y z h k l. s.signed_alone j y z h (subst (In y) (signed j) k) (subst (In z) (signed j) l);
        made_valid = λ y h. ⊎_elim (λ e. subst (λ v. T (valid f b (b v))) (sym e) may.0) (s.made_valid y) (in_cons y x w.made h);
        made_good =
            λ y h.
            ⊎_elim (λ e. subst (λ v. T (good f bad (b v).author)) (sym e) (subst (λ v. T (good f bad v)) (sym author) g)) (s.made_good y)
            (in_cons y x w.made h);
        made_round =
            λ y h.
            ⊎_elim
            (λ e.
            subst (λ v. (b v).round < (member_at (b v).author w').round) (sym e)
            (subst (λ v. (b x).round < (member_at v w').round) (sym author)
            (subst (λ n. (b x).round < n.round) (sym (changed_here i m' w (there i g))) (omega arith))))
            (λ o. let old = s.made_round y o in let up = grown.round (b y).author in omega arith)
            (in_cons y x w.made h);
        made_parents =
            λ y h.
            ⊎_elim
            (λ e.
            subst (λ v. Within (b v).parents (member_at (b v).author w').web) (sym e)
            (λ z k. grown.web (b x).author z (subst (λ v. In z (member_at v w).web) (sym author) (may.3 z k))))
            (λ o z k. grown.web (b y).author z (s.made_parents y o z k))
            (in_cons y x w.made h);
        made_alone =
            alone_cons b x w.made
            (λ y h a r. let old = made_before i y h (sym a ∙ author) in absurd (omega arith))
            s.made_alone;
        made_all =
            changed
            (λ j n. (r : ℕ) → T (good f bad j) → r < n.round → (y : ℕ) × In y (x ∷ w.made) × ((b y).author ≡ j) × ((b y).round ≡ r)) i m' w
            (λ r h k.
            ⊎_elim (λ e. (x, in_here x w.made, author, round ∙ sym e))
            (λ n. let o = s.made_all i r h (grind arith) in (o.0, in_there o.0 x w.made o.1, o.2, o.3))
            (same_or_not r m.round))
            (λ j r h k. let o = s.made_all j r h k in (o.0, in_there o.0 x w.made o.1, o.2, o.3));
        web_once = λ j h. subst (λ l. T (distinct l)) (sym (web j)) (s.web_once j h);
        web_certified = λ j y h k. s.web_certified j y h (subst (In y) (web j) k);
        web_behind = λ j h. subst (Behind b) (sym (web j)) (s.web_behind j h);
        web_alone = λ j y z h k l. s.web_alone j y z h (subst (In y) (web j) k) (subst (In z) (web j) l);
      }

  sound_signs : (i x : ℕ) → T (good f bad i) → T (signable f b (genuine b bad x w) x (member_at i w)) → Sound f b bad (after_signs i x w)
  sound_signs i x g t =
      let m = member_at i w in
      let m' = after_sign x m in
      let w' = after_signs i x w in
      let grown = grown_signs i x w in
      let may = signable_is f b (genuine b bad x w) x m t in
      let web : (j : ℕ) → (member_at j w').web ≡ (member_at j w).web = kept (λ n. n.web) i m' w refl in
      let round : (j : ℕ) → (member_at j w').round ≡ (member_at j w).round = kept (λ n. n.round) i m' w refl in
      let here : In x (member_at i w').signed = subst (λ n. In x n.signed) (sym (changed_here i m' w (there i g))) (signs_it x m) in
      record {
        size = length-set w.all i m' ∙ s.size;
        signed_given =
            changed (λ j n. (y : ℕ) → T (good f bad j) → In y n.signed → In j (signers y w'.signatures)) i m' w
            (λ y h k.
            ⊎_elim (λ e. subst (λ v. In i (signers v w'.signatures)) (sym e) (signed_now i x w))
            (λ o. signed_before i x w y i (s.signed_given i y h o))
            (signs_no_more x m y k))
            (λ j y h k. signed_before i x w y j (s.signed_given j y h k));
        given_signed =
            λ j y h k.
            ⊎_elim
            (λ p. subst (λ v. In y (member_at v w').signed) (sym p.0) (subst (λ v. In v (member_at i w').signed) (sym p.1) here))
            (λ o. grown.signed j y (s.given_signed j y h o))
            (signed_when i x w j y k);
        signers-members =
            λ j y k. ⊎_elim (λ p. subst (λ v. v < members f) (sym p.0) (good_member f bad i g)) (s.signers-members j y) (signed_when i x w j y k);
        signed_valid =
            changed (λ j n. (y : ℕ) → T (good f bad j) → In y n.signed → T (valid f b (b y))) i m' w
            (λ y h k. ⊎_elim (λ e. subst (λ v. T (valid f b (b v))) (sym e) may.0) (s.signed_valid i y h) (signs_no_more x m y k))
            s.signed_valid;
        signed_genuine =
            changed (λ j n. (y : ℕ) → T (good f bad j) → In y n.signed → T (genuine b bad y w)) i m' w
            (λ y h k. ⊎_elim (λ e. subst (λ v. T (genuine b bad v w)) (sym e) may.1) (s.signed_genuine i y h) (signs_no_more x m y k))
            s.signed_genuine;
        signed_alone =
            λ j y z h.
            changed (λ j n. T (good f bad j) → Alone b n.signed) i m' w
            (λ k.
            let old : Alone b m.signed = λ u v. s.signed_alone i u v k in
            cond_cases (Alone b) (is_in x m.signed) m.signed (x ∷ m.signed) (λ _. old)
            (λ _. alone_cons b x m.signed (no_rival b x m.signed may.2) old))
            (λ j k u v. s.signed_alone j u v k) j h y z;
        made_valid = s.made_valid;
        made_good = s.made_good;
        made_round = λ y h. subst (λ r. (b y).round < r) (sym (round (b y).author)) (s.made_round y h);
        made_parents = λ y h z k. grown.web (b y).author z (s.made_parents y h z k);
        made_alone = s.made_alone;
        made_all = λ j r h k. s.made_all j r h (subst (λ n. r < n) (round j) k);
        web_once = λ j h. subst (λ l. T (distinct l)) (sym (web j)) (s.web_once j h);
        web_certified = λ j y h k. stays_certified f w w' y grown (s.web_certified j y h (subst (In y) (web j) k));
        web_behind = λ j h. subst (Behind b) (sym (web j)) (s.web_behind j h);
        web_alone = λ j y z h k l. s.web_alone j y z h (subst (In y) (web j) k) (subst (In z) (web j) l);
      }

  sound_takes : (i x : ℕ) → T (good f bad i) → T (takable b (certified f x w) x (member_at i w)) → Sound f b bad (after_takes i x w)
  sound_takes i x g t =
      let m = member_at i w in
      let m' = after_take x m in
      let w' = after_takes i x w in
      let grown = grown_takes i x w in
      let may = takable_is b (certified f x w) x m t in
      let signed : (j : ℕ) → (member_at j w').signed ≡ (member_at j w).signed = kept (λ n. n.signed) i m' w refl in
      let round : (j : ℕ) → (member_at j w').round ≡ (member_at j w).round = kept (λ n. n.round) i m' w refl in
      record {
        size = length-set w.all i m' ∙ s.size;
        signed_given = λ j y h k. s.signed_given j y h (subst (In y) (signed j) k);
        given_signed = λ j y h k. grown.signed j y (s.given_signed j y h k);
        signers-members = s.signers-members;
        signed_valid = λ j y h k. s.signed_valid j y h (subst (In y) (signed j) k);
        signed_genuine = λ j y h k. s.signed_genuine j y h (subst (In y) (signed j) k);
        signed_alone = λ j y z h k l. s.signed_alone j y z h (subst (In y) (signed j) k) (subst (In z) (signed j) l);
        made_valid = s.made_valid;
        made_good = s.made_good;
        made_round = λ y h. subst (λ r. (b y).round < r) (sym (round (b y).author)) (s.made_round y h);
        made_parents = λ y h z k. grown.web (b y).author z (s.made_parents y h z k);
        made_alone = s.made_alone;
        made_all = λ j r h k. s.made_all j r h (subst (λ n. r < n) (round j) k);
        web_once =
            changed (λ j n. T (good f bad j) → T (distinct n.web)) i m' w (λ h. distinct_cons x m.web may.2 (s.web_once i h)) s.web_once;
        web_certified =
            changed (λ j n. (y : ℕ) → T (good f bad j) → In y n.web → T (certified f y w)) i m' w
            (λ y h k. ⊎_elim (λ e. subst (λ v. T (certified f v w)) (sym e) may.0) (s.web_certified i y h) (in_cons y x m.web k))
            s.web_certified;
        web_behind = changed (λ j n. T (good f bad j) → Behind b n.web) i m' w (λ h. (may.1, s.web_behind i h)) s.web_behind;
        web_alone =
            λ j y z h.
            changed (λ j n. T (good f bad j) → Alone b n.web) i m' w
            (λ k. alone_cons b x m.web (no_rival b x m.web may.3) (λ u v. s.web_alone i u v k))
            (λ j k u v. s.web_alone j u v k) j h y z;
      }

  sound_forges : (i x : ℕ) → i < members f → T (bad i) → Sound f b bad (with_signature i x w)
  sound_forges i x l t =
      record {
        size = s.size;
        signed_given = λ j y h k. signed_before i x w y j (s.signed_given j y h k);
        given_signed =
            λ j y h k.
            ⊎_elim (λ p. absurd (T_not (bad i) (subst (λ v. T (not (bad v))) p.0 (good_not_bad f bad j h)) t)) (s.given_signed j y h)
            (signed_when i x w j y k);
        signers-members = λ j y k. ⊎_elim (λ p. subst (λ v. v < members f) (sym p.0) l) (s.signers-members j y) (signed_when i x w j y k);
        signed_valid = s.signed_valid;
        signed_genuine = s.signed_genuine;
        signed_alone = s.signed_alone;
        made_valid = s.made_valid;
        made_good = s.made_good;
        made_round = s.made_round;
        made_parents = s.made_parents;
        made_alone = s.made_alone;
        made_all = s.made_all;
        web_once = s.web_once;
        web_certified = λ j y h k. stays_certified f w (with_signature i x w) y (grown_signature i x w) (s.web_certified j y h k);
        web_behind = s.web_behind;
        web_alone = s.web_alone;
      }

pub sound_step : (f : ℕ) (b : Book) (bad : ℕ → Bool) (e : Event) (w : World) → Sound f b bad w → Sound f b bad (step f b bad e w)
sound_step f b bad (Makes i x) w s =
    let may = makable f b i x (member_at i w) in
    cond_cases (Sound f b bad) (good f bad i && may) (after_makes i x w) w
    (λ t. sound_makes s i x (and_left (good f bad i) may t) (and_right (good f bad i) may t)) (λ _. s)
sound_step f b bad (Signs i x) w s =
    let may = signable f b (genuine b bad x w) x (member_at i w) in
    cond_cases (Sound f b bad) (good f bad i && may) (after_signs i x w) w
    (λ t. sound_signs s i x (and_left (good f bad i) may t) (and_right (good f bad i) may t)) (λ _. s)
sound_step f b bad (Takes i x) w s =
    let may = takable b (certified f x w) x (member_at i w) in
    cond_cases (Sound f b bad) (good f bad i && may) (after_takes i x w) w
    (λ t. sound_takes s i x (and_left (good f bad i) may t) (and_right (good f bad i) may t)) (λ _. s)
sound_step f b bad (Forges i x) w s =
    let member = ltb i (members f) in
    cond_cases (Sound f b bad) (member && bad i) (with_signature i x w) w
    (λ t. sound_forges s i x (ltb→lt i (members f) (and_left member (bad i) t)) (and_right member (bad i) t)) (λ _. s)

-- every world is sound
pub always_sound : (f : ℕ) (b : Book) (bad : ℕ → Bool) (es : List Event) → Sound f b bad (world f b bad es)
unfolding world
always_sound f b bad [] = sound_start f b bad
always_sound f b bad (e ∷ es) = sound_step f b bad e (world f b bad es) (always_sound f b bad es)

-- ---- what a quorum's signatures mean
module _ (f : ℕ) (b : Book) (bad : ℕ → Bool) (few : Few f bad) (es : List Event) where
  -- a good member has signed what is certified
  pub certified_signed :
      (x : ℕ) → T (certified f x (world f b bad es)) → (i : ℕ) × T (good f bad i) × In x (member_at i (world f b bad es)).signed
  certified_signed x c =
      let sound = always_sound f b bad es in
      let ss = signers x (world f b bad es).signatures in
      let r = quorum-has-good (today f) bad few ss (λ i h. sound.signers-members i x h) (leb→le (quorum f) (different ss) c) in
      let i = r.0 in
      let g : T (good f bad i) =
      and_both (ltb i (members f)) (not (bad i)) (lt→ltb i (members f) (sound.signers-members i x r.1)) r.2 in
      (i, g, sound.given_signed i x g r.1)

  -- two certified blocks of one author and round are one
  pub certified_alone :
      (x y : ℕ) → T (certified f x (world f b bad es)) → T (certified f y (world f b bad es)) → (b x).author ≡ (b y).author → (b x).round ≡ (b y).round → x ≡ y
  certified_alone x y cx cy a r =
      let sound = always_sound f b bad es in
      let sx = signers x (world f b bad es).signatures in
      let sy = signers y (world f b bad es).signatures in
      let both =
      quorums_share_good (today f) bad few sx sy (λ i h. sound.signers-members i x h) (λ i h. sound.signers-members i y h)
      (leb→le (quorum f) (different sx) cx) (leb→le (quorum f) (different sy) cy) in
      let i = both.0 in
      let g : T (good f bad i) =
      and_both (ltb i (members f)) (not (bad i)) (lt→ltb i (members f) (sound.signers-members i x both.1)) both.3 in
      sound.signed_alone i x y g (sound.given_signed i x g both.1) (sound.given_signed i y g both.2) a r

  -- what is certified is valid and genuine
  pub certified-valid : (x : ℕ) → T (certified f x (world f b bad es)) → T (valid f b (b x))
  certified-valid x c = let r = certified_signed x c in (always_sound f b bad es).signed_valid r.0 x r.1 r.2

  pub certified-genuine : (x : ℕ) → T (certified f x (world f b bad es)) → T (genuine b bad x (world f b bad es))
  certified-genuine x c = let r = certified_signed x c in (always_sound f b bad es).signed_genuine r.0 x r.1 r.2

  pub web_sound : (i : ℕ) → T (good f bad i) → SoundWeb f b (web_of f b bad i es)
  web_sound i g =
      let sound = always_sound f b bad es in
      record {
        closed = λ x y h k. behind_closed b (web_of f b bad i es) (sound.web_behind i g) x h y k;
        all_valid = λ x h. certified-valid x (sound.web_certified i x g h);
        once = sound.web_once i g;
        alone = λ x y. sound.web_alone i x y g;
      }

-- a good member's web goes with any good member's web of a later world
pub webs_compatible_later :
    (f : ℕ) (b : Book) (bad : ℕ → Bool) → Few f bad → (ds es : List Event) (i j : ℕ) → T (good f bad i) → T (good f bad j) →
    Compatible f b (web_of f b bad i es) (web_of f b bad j (ds ++ es))
webs_compatible_later f b bad few ds es i j gi gj =
    let now = world f b bad es in
    let later = world f b bad (ds ++ es) in
    record {
      here = web_sound f b bad few es i gi;
      there = web_sound f b bad few (ds ++ es) j gj;
      one =
          λ x y hx hy.
          certified_alone f b bad few (ds ++ es) x y
          (stays_certified f now later x (only_grows f b bad ds es) ((always_sound f b bad es).web_certified i x gi hx))
          ((always_sound f b bad (ds ++ es)).web_certified j y gj hy);
    }

module _ (f : ℕ) (b : Book) (bad : ℕ → Bool) (few : Few f bad) (es : List Event) where
  pub webs_compatible : (i j : ℕ) → T (good f bad i) → T (good f bad j) → Compatible f b (web_of f b bad i es) (web_of f b bad j es)
  webs_compatible i j gi gj = webs_compatible_later f b bad few [] es i j gi gj
