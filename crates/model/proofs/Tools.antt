-- Tests as facts and choices by `cond`: the few tools that the proofs use in place of rewriting. Assumes nothing.
use mathlib.Core.Path.{◌≡◌, refl, sym, subst}
use mathlib.Core.Bool.{Bool, true, false, cond, ◌&&◌, ◌||◌, not}
use mathlib.Core.Logic.{◌⊎◌, inl, inr}
use Prim.Native.Nat.{ℕ}
use lib.Dec.{T, eqb, eqb_refl, eqb→eq}

pub and_left : (a b : Bool) → T (a && b) → T a
and_left true b t = tt
and_left false b t = t

pub and_right : (a b : Bool) → T (a && b) → T b
and_right true b t = t
and_right false b t = absurd t

pub and_both : (a b : Bool) → T a → T b → T (a && b)
and_both true b p q = q
and_both false b p q = p

pub or_cases : (a b : Bool) → T (a || b) → T a ⊎ T b
or_cases true b t = inl tt
or_cases false b t = inr t

pub or_left : (a b : Bool) → T a → T (a || b)
or_left true b t = tt
or_left false b t = absurd t

pub or_right : (a b : Bool) → T b → T (a || b)
or_right true b t = tt
or_right false b t = t

-- a test passes or fails
pub decided : (a : Bool) → T a ⊎ T (not a)
decided true = inl tt
decided false = inr tt

pub is_true : (a : Bool) → T a → a ≡ true
is_true true t = refl
is_true false t = absurd t

pub is_false : (a : Bool) → T (not a) → a ≡ false
is_false true t = absurd t
is_false false t = refl

-- two tests that imply each other are one
pub same_test : (a b : Bool) → (T a → T b) → (T b → T a) → a ≡ b
same_test true true f g = refl
same_test true false f g = absurd (f tt)
same_test false true f g = absurd (g tt)
same_test false false f g = refl

-- what holds of both sides of a choice, each under its test, holds of the choice
pub cond_cases {ℓ κ} : {A : Type ℓ} (P : A → Type κ) (c : Bool) (v w : A) → (T c → P v) → (T (not c) → P w) → P (cond c v w)
cond_cases P true v w p q = p tt
cond_cases P false v w p q = q tt

pub cond-then {ℓ} : {A : Type ℓ} (c : Bool) (v w : A) → T c → cond c v w ≡ v
cond-then true v w t = refl
cond-then false v w t = absurd t

pub cond-else {ℓ} : {A : Type ℓ} (c : Bool) (v w : A) → T (not c) → cond c v w ≡ w
cond-else true v w t = absurd t
cond-else false v w t = refl

-- what a choice has, one of its sides has, under its test
pub cond-from {ℓ κ} : {A : Type ℓ} (P : A → Type κ) (c : Bool) (v w : A) → P (cond c v w) → (T c × P v) ⊎ (T (not c) × P w)
cond-from P true v w p = inl (tt, p)
cond-from P false v w p = inr (tt, p)

-- a function of a choice is the choice of its values
pub cond-under {ℓ κ} : {A : Type ℓ} {B : Type κ} (g : A → B) (c : Bool) (v w : A) → g (cond c v w) ≡ cond c (g v) (g w)
cond-under g true v w = refl
cond-under g false v w = refl

pub eq→eqb : (x y : ℕ) → x ≡ y → T (eqb x y)
eq→eqb x y e = subst (λ (z : ℕ). T (eqb x z)) e (eqb_refl x)

-- equal or not
pub same_or_not : (x y : ℕ) → (x ≡ y) ⊎ (x ≡ y → ⊥)
same_or_not x y = go (eqb x y) refl
  where
    go : (c : Bool) → eqb x y ≡ c → (x ≡ y) ⊎ (x ≡ y → ⊥)
    go true e = inl (eqb→eq x y (subst T (sym e) tt))
    go false e = inr (λ h. subst T e (eq→eqb x y h))

pub not_eqb : (x y : ℕ) → (x ≡ y → ⊥) → T (not (eqb x y))
not_eqb x y h = go (eqb x y) refl
  where
    go : (c : Bool) → eqb x y ≡ c → T (not (eqb x y))
    go true e = absurd (h (eqb→eq x y (subst T (sym e) tt)))
    go false e = subst (λ c. T (not c)) (sym e) tt
