-- What steps of good members can bring about: one event at a time, and chains of them that leave rounds and made blocks as they are.
-- Assumes nothing.
use mathlib.Core.Path.{◌≡◌, refl, ap, sym, subst, ◌∙◌}
use mathlib.Core.Bool.{Bool, true, ◌&&◌}
use mathlib.Core.List.{List, [], ◌∷◌, ◌++◌, append_assoc}
use mathlib.Core.Logic.{⊎_elim}
use Prim.Native.Nat.{ℕ, suc}
use native.Mathlib.Numerals.{add-one}
use native.Mathlib.Omega.{arith}
use lib.Dec.{T}
use lib.ListN.{get_or}
use lib.Seq.{get_or-set_other}
use Rattle.model.specs.Blocks.{Book, within_limits}
use Rattle.model.specs.Member.{Member, new_member, signable, takable, makable, after_sign, after_take, after_make}
use Rattle.model.specs.World.{Event, Makes, Signs, Takes, Forges, member_at, good, signers, certified, genuine, with_member, world, web_of}
use Rattle.model.specs.Promise.{by_good}
use Rattle.model.proofs.Tools.{and_left, and_right, and_both, cond-then}
use Rattle.model.proofs.Lists.{In, in_here, in_there, in_none, in_cons}
use Rattle.model.proofs.Worlds.{Grown, only_grows, always_sound, after_makes, after_signs, after_takes, changed_here, kept, signed_now, good_member}

-- ---- chains of steps of good members
pub by_good_append : (f : ℕ) (b : Book) (bad : ℕ → Bool) (xs ys : List Event) → T (by_good f b bad xs) → T (by_good f b bad ys) → T (by_good f b bad (xs ++ ys))
unfolding by_good
by_good_append f b bad [] ys p q = q
by_good_append f b bad (Makes i x ∷ xs) ys p q =
    let front = good f bad i && within_limits (b x) in
    and_both front (by_good f b bad (xs ++ ys)) (and_left front (by_good f b bad xs) p)
    (by_good_append f b bad xs ys (and_right front (by_good f b bad xs) p) q)
by_good_append f b bad (Signs i x ∷ xs) ys p q =
    and_both (good f bad i) (by_good f b bad (xs ++ ys)) (and_left (good f bad i) (by_good f b bad xs) p)
    (by_good_append f b bad xs ys (and_right (good f bad i) (by_good f b bad xs) p) q)
by_good_append f b bad (Takes i x ∷ xs) ys p q =
    and_both (good f bad i) (by_good f b bad (xs ++ ys)) (and_left (good f bad i) (by_good f b bad xs) p)
    (by_good_append f b bad xs ys (and_right (good f bad i) (by_good f b bad xs) p) q)
by_good_append f b bad (Forges i x ∷ xs) ys p q = absurd p

-- steps of good members lead from the events es to the events es'
pub record After (f : ℕ) (b : Book) (bad : ℕ → Bool) (es es' : List Event) : Type 0 where
  pub steps : List Event
  pub by_good_lem : T (by_good f b bad steps)
  pub leads : steps ++ es ≡ es'

-- they do so making nothing, so that every member's round stays
pub record Quiet (f : ℕ) (b : Book) (bad : ℕ → Bool) (es es' : List Event) : Type 0 where
  pub way : After f b bad es es'
  pub made_same : (world f b bad es').made ≡ (world f b bad es).made
  pub round_same : (i : ℕ) → (member_at i (world f b bad es')).round ≡ (member_at i (world f b bad es)).round

pub after_none : (f : ℕ) (b : Book) (bad : ℕ → Bool) (es : List Event) → After f b bad es es
unfolding by_good
after_none f b bad es = record { steps = []; by_good_lem = tt; leads = refl }

pub after_then : {f : ℕ} {b : Book} {bad : ℕ → Bool} {es es' es'' : List Event} → After f b bad es es' → After f b bad es' es'' → After f b bad es es''
after_then {f} {b} {bad} {es} p q =
    record {
      steps = q.steps ++ p.steps;
      by_good_lem = by_good_append f b bad q.steps p.steps q.by_good_lem p.by_good_lem;
      leads = append_assoc q.steps p.steps es ∙ (ap (λ l. q.steps ++ l) p.leads ∙ q.leads);
    }

pub after_grown : {f : ℕ} {b : Book} {bad : ℕ → Bool} {es es' : List Event} → After f b bad es es' → Grown (world f b bad es) (world f b bad es')
after_grown {f} {b} {bad} {es} p = subst (λ l. Grown (world f b bad es) (world f b bad l)) p.leads (only_grows f b bad p.steps es)

pub quiet_none : (f : ℕ) (b : Book) (bad : ℕ → Bool) (es : List Event) → Quiet f b bad es es
quiet_none f b bad es = record { way = after_none f b bad es; made_same = refl; round_same = λ i. refl }

pub quiet_then : {f : ℕ} {b : Book} {bad : ℕ → Bool} {es es' es'' : List Event} → Quiet f b bad es es' → Quiet f b bad es' es'' → Quiet f b bad es es''
quiet_then p q =
    record {
      way = after_then p.way q.way;
      made_same = q.made_same ∙ p.made_same;
      round_same = λ i. q.round_same i ∙ p.round_same i;
    }

-- Quietly, something can be brought about.
pub record Can (f : ℕ) (b : Book) (bad : ℕ → Bool) (es : List Event) (P : List Event → Type 0) : Type 0 where
  pub then : List Event
  pub quiet : Quiet f b bad es then
  pub holds : P then

module _ {f : ℕ} {b : Book} {bad : ℕ → Bool} where
  pub already : {P : List Event → Type 0} (es : List Event) → P es → Can f b bad es P
  already es p = record { then = es; quiet = quiet_none f b bad es; holds = p }

  pub and_then :
      {P Q : List Event → Type 0} {es : List Event} → Can f b bad es P → ((es' : List Event) → Quiet f b bad es es' → P es' → Can f b bad es' Q) → Can f b bad es Q
  and_then c k =
      let d = k c.then c.quiet c.holds in
      record { then = d.then; quiet = quiet_then c.quiet d.quiet; holds = d.holds }

  -- what can be brought about for each of a list, and stays, can be brought about for all of it
  pub for_each :
      (P : ℕ → List Event → Type 0) → ((x : ℕ) (es es' : List Event) → Quiet f b bad es es' → P x es → P x es') → (xs : List ℕ) (es : List Event) →
      ((x : ℕ) → In x xs → (es' : List Event) → Quiet f b bad es es' → Can f b bad es' (P x)) → Can f b bad es (λ es'. (x : ℕ) → In x xs → P x es')
  for_each P keeps [] es each = already es (λ x t. absurd (in_none x t))
  for_each P keeps (x ∷ xs) es each =
      and_then (for_each P keeps xs es (λ y t. each y (in_there y x xs t)))
      (λ es₁ q₁ all.
      and_then (each x (in_here x xs) es₁ q₁)
      (λ es₂ q₂ p. already es₂
      (λ y t. ⊎_elim (λ e. subst (λ z. P z es₂) (sym e) p) (λ h. keeps y es₁ es₂ q₂ (all y h)) (in_cons y x xs t))))

-- ---- one event
-- member i holds what it was given
now_holds : (f : ℕ) (b : Book) (bad : ℕ → Bool) (es : List Event) (i : ℕ) (m : Member) → T (good f bad i) →
    member_at i (with_member i m (world f b bad es)) ≡ m
now_holds f b bad es i m g =
    let size = (always_sound f b bad es).size in
    let h = good_member f bad i g in
    changed_here i m (world f b bad es) (omega arith)

-- an event after which member i holds m, of the round that it was at, and nothing is made
quiet_one :
    (f : ℕ) (b : Book) (bad : ℕ → Bool) (es : List Event) (e : Event) (i : ℕ) (m : Member) → T (by_good f b bad (e ∷ [])) →
    (world f b bad (e ∷ es)).all ≡ (with_member i m (world f b bad es)).all → (world f b bad (e ∷ es)).made ≡ (world f b bad es).made →
    m.round ≡ (member_at i (world f b bad es)).round → Quiet f b bad es (e ∷ es)
quiet_one f b bad es e i m by all made round =
    record {
      way = record { steps = e ∷ []; by_good_lem = by; leads = refl };
      made_same = made;
      round_same = λ j. ap (λ l. (get_or l j new_member).round) all ∙ kept (λ n. n.round) i m (world f b bad es) round j;
    }

module _ (f : ℕ) (b : Book) (bad : ℕ → Bool) (es : List Event) (i x : ℕ) (is-good : T (good f bad i)) where
  -- a good member signs what it may
  pub sign_one :
      T (signable f b (genuine b bad x (world f b bad es)) x (member_at i (world f b bad es))) →
      Can f b bad es (λ es'. In i (signers x (world f b bad es').signatures))
  unfolding world by_good
  sign_one may =
      let w = world f b bad es in
      let m = member_at i w in
      let test = good f bad i && signable f b (genuine b bad x w) x m in
      let e : world f b bad (Signs i x ∷ es) ≡ after_signs i x w = cond-then test (after_signs i x w) w (and_both (good f bad i) _ is-good may) in
      record {
        then = Signs i x ∷ es;
        quiet =
            quiet_one f b bad es (Signs i x) i (after_sign x m) (and_both (good f bad i) true is-good tt) (ap (λ v. v.all) e) (ap (λ v. v.made) e) refl;
        holds = subst (λ v. In i (signers x v.signatures)) (sym e) (signed_now i x (with_member i (after_sign x m) w));
      }

  -- a good member takes in what it may
  pub take_one :
      T (takable b (certified f x (world f b bad es)) x (member_at i (world f b bad es))) → Can f b bad es (λ es'. In x (web_of f b bad i es'))
  unfolding world by_good
  take_one may =
      let w = world f b bad es in
      let m = member_at i w in
      let test = good f bad i && takable b (certified f x w) x m in
      let e : world f b bad (Takes i x ∷ es) ≡ after_takes i x w = cond-then test (after_takes i x w) w (and_both (good f bad i) _ is-good may) in
      record {
        then = Takes i x ∷ es;
        quiet =
            quiet_one f b bad es (Takes i x) i (after_take x m) (and_both (good f bad i) true is-good tt) (ap (λ v. v.all) e) (ap (λ v. v.made) e) refl;
        holds =
            subst (λ v. In x (member_at i v).web) (sym e)
            (subst (λ n. In x n.web) (sym (now_holds f b bad es i (after_take x m) is-good)) (in_here x m.web));
      }

-- what a good member's making a block brings: its round is the next one, the others' rounds and all webs stay, and the block is made
pub record Maker (f : ℕ) (b : Book) (bad : ℕ → Bool) (i x : ℕ) (es es' : List Event) : Type 0 where
  pub way : After f b bad es es'
  pub is_made : In x (world f b bad es').made
  pub web_same : (j : ℕ) → web_of f b bad j es' ≡ web_of f b bad j es
  pub round_next : (member_at i (world f b bad es')).round ≡ suc (member_at i (world f b bad es)).round
  pub round_same : (j : ℕ) → (j ≡ i → ⊥) → (member_at j (world f b bad es')).round ≡ (member_at j (world f b bad es)).round

pub make_one :
    (f : ℕ) (b : Book) (bad : ℕ → Bool) (es : List Event) (i x : ℕ) → T (good f bad i) → T (makable f b i x (member_at i (world f b bad es))) →
    T (within_limits (b x)) → Maker f b bad i x es (Makes i x ∷ es)
unfolding world by_good
make_one f b bad es i x is-good may limits =
    let w = world f b bad es in
    let m = member_at i w in
    let test = good f bad i && makable f b i x m in
    let e : world f b bad (Makes i x ∷ es) ≡ after_makes i x w = cond-then test (after_makes i x w) w (and_both (good f bad i) _ is-good may) in
    record {
      way = record {
        steps = Makes i x ∷ [];
        by_good_lem = and_both (good f bad i && within_limits (b x)) true (and_both (good f bad i) (within_limits (b x)) is-good limits) tt;
        leads = refl;
      };
      is_made = subst (λ v. In x v.made) (sym e) (in_here x w.made);
      web_same = λ j. ap (λ v. (member_at j v).web) e ∙ kept (λ n. n.web) i (after_make m) w refl j;
      round_next = ap (λ v. (member_at i v).round) e ∙ (ap (λ n. n.round) (now_holds f b bad es i (after_make m) is-good) ∙ add-one m.round);
      round_same = λ j n. ap (λ v. (member_at j v).round) e ∙ ap (λ k. k.round) (get_or-set_other w.all i j (after_make m) new_member n);
    }
