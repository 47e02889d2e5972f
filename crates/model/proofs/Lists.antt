-- Laws of lists read as sets: what is in a list, in a union, in what is left of one, and how many different ones there are. With these laws
-- the definitions need not be opened again. Assumes nothing.
use mathlib.Core.Path.{◌≡◌, refl, ap, sym, subst, ◌∙◌}
use mathlib.Core.Bool.{not}
use mathlib.Core.List.{List, [], ◌∷◌, ◌++◌}
use mathlib.Core.Logic.{◌⊎◌, inl, inr, ⊎_elim}
use Prim.Native.Nat.{ℕ, suc, ◌≤◌, ◌<◌}
use native.Mathlib.Omega.{arith}
use lib.Dec.{T, eqb, ltb, eqb→eq, eqb_refl, T_not, not_T, ltb→lt, lt→ltb}
use lib.ListN.{length}
use Rattle.model.specs.Names.{is_in, all_in, distinct, different, all_below, union, without}
use Rattle.model.proofs.Tools.{and_left, and_right, and_both, or_cases, or_left, or_right, decided, cond_cases, cond-from, cond-then, cond-else}

-- x stands in xs
abbrev pub In : ℕ → List ℕ → Type 0
In x xs = T (is_in x xs)

-- all of xs stands in ys
abbrev pub Within : List ℕ → List ℕ → Type 0
Within xs ys = (x : ℕ) → In x xs → In x ys

pub in_none : (x : ℕ) → In x [] → ⊥
unfolding is_in
in_none x t = t

pub in_here : (x : ℕ) (xs : List ℕ) → In x (x ∷ xs)
unfolding is_in
in_here x xs = or_left (eqb x x) (is_in x xs) (eqb_refl x)

pub in_there : (x y : ℕ) (xs : List ℕ) → In x xs → In x (y ∷ xs)
unfolding is_in
in_there x y xs t = or_right (eqb x y) (is_in x xs) t

pub in_cons : (x y : ℕ) (xs : List ℕ) → In x (y ∷ xs) → (x ≡ y) ⊎ In x xs
unfolding is_in
in_cons x y xs t = ⊎_elim (λ e. inl (eqb→eq x y e)) (λ h. inr h) (or_cases (eqb x y) (is_in x xs) t)

pub in_single : (x y : ℕ) → In x (y ∷ []) → x ≡ y
in_single x y t = ⊎_elim (λ e. e) (λ h. absurd (in_none x h)) (in_cons x y [] t)

pub in_or_not : (x : ℕ) (xs : List ℕ) → In x xs ⊎ (In x xs → ⊥)
in_or_not x xs = ⊎_elim (λ t. inl t) (λ n. inr (T_not (is_in x xs) n)) (decided (is_in x xs))

pub in_append_left : (x : ℕ) (xs ys : List ℕ) → In x xs → In x (xs ++ ys)
in_append_left x [] ys t = absurd (in_none x t)
in_append_left x (y ∷ xs) ys t =
    ⊎_elim (λ e. subst (λ z. In x (z ∷ xs ++ ys)) e (in_here x (xs ++ ys))) (λ h. in_there x y (xs ++ ys) (in_append_left x xs ys h)) (in_cons x y xs t)

pub in_append_right : (x : ℕ) (xs ys : List ℕ) → In x ys → In x (xs ++ ys)
in_append_right x [] ys t = t
in_append_right x (y ∷ xs) ys t = in_there x y (xs ++ ys) (in_append_right x xs ys t)

pub in_append : (x : ℕ) (xs ys : List ℕ) → In x (xs ++ ys) → In x xs ⊎ In x ys
in_append x [] ys t = inr t
in_append x (y ∷ xs) ys t =
    ⊎_elim (λ e. inl (subst (λ z. In x (z ∷ xs)) e (in_here x xs)))
    (λ h. ⊎_elim (λ p. inl (in_there x y xs p)) (λ q. inr q) (in_append x xs ys h))
    (in_cons x y (xs ++ ys) t)

-- where x stands in a list, the list is what stands before it, x, and what stands after it
pub in_split : (x : ℕ) (xs : List ℕ) → In x xs → (before : List ℕ) × (after : List ℕ) × (xs ≡ before ++ (x ∷ after))
in_split x [] t = absurd (in_none x t)
in_split x (y ∷ xs) t =
    ⊎_elim (λ e. ([], xs, ap (λ z. z ∷ xs) (sym e)))
    (λ h. let s = in_split x xs h in (y ∷ s.0, s.1, ap (λ l. y ∷ l) s.2))
    (in_cons x y xs t)

-- ---- all of one list in another
pub all_in_lem : (xs ys : List ℕ) → Within xs ys → T (all_in xs ys)
unfolding all_in
all_in_lem [] ys h = tt
all_in_lem (x ∷ xs) ys h = and_both (is_in x ys) (all_in xs ys) (h x (in_here x xs)) (all_in_lem xs ys (λ z t. h z (in_there z x xs t)))

pub in_all : (xs ys : List ℕ) → T (all_in xs ys) → Within xs ys
unfolding all_in
in_all [] ys t z h = absurd (in_none z h)
in_all (x ∷ xs) ys t z h =
    ⊎_elim (λ e. subst (λ y. In y ys) (sym e) (and_left (is_in x ys) (all_in xs ys) t))
    (λ k. in_all xs ys (and_right (is_in x ys) (all_in xs ys) t) z k)
    (in_cons z x xs h)

-- ---- nothing twice
pub distinct_head : (x : ℕ) (xs : List ℕ) → T (distinct (x ∷ xs)) → In x xs → ⊥
unfolding distinct
distinct_head x xs t = T_not (is_in x xs) (and_left (not (is_in x xs)) (distinct xs) t)

pub distinct_tail : (x : ℕ) (xs : List ℕ) → T (distinct (x ∷ xs)) → T (distinct xs)
unfolding distinct
distinct_tail x xs t = and_right (not (is_in x xs)) (distinct xs) t

pub distinct_none : T (distinct [])
unfolding distinct
distinct_none = tt

pub distinct_cons : (x : ℕ) (xs : List ℕ) → (In x xs → ⊥) → T (distinct xs) → T (distinct (x ∷ xs))
unfolding distinct
distinct_cons x xs n d = and_both (not (is_in x xs)) (distinct xs) (not_T (is_in x xs) n) d

pub distinct_append : (xs ys : List ℕ) → T (distinct xs) → T (distinct ys) → ((x : ℕ) → In x xs → In x ys → ⊥) → T (distinct (xs ++ ys))
distinct_append [] ys d e n = e
distinct_append (x ∷ xs) ys d e n =
    distinct_cons x (xs ++ ys)
    (λ t. ⊎_elim (distinct_head x xs d) (n x (in_here x xs)) (in_append x xs ys t))
    (distinct_append xs ys (distinct_tail x xs d) e (λ z t. n z (in_there z x xs t)))

-- ---- unions
pub in_union : (x : ℕ) (xs ys : List ℕ) → In x (union xs ys) → In x xs ⊎ In x ys
unfolding union
in_union x [] ys t = inr t
in_union x (y ∷ xs) ys t =
    ⊎_elim (λ p. ⊎_elim (λ q. inl (in_there x y xs q)) (λ q. inr q) (in_union x xs ys p.1))
    (λ p. ⊎_elim (λ e. inl (subst (λ z. In x (z ∷ xs)) e (in_here x xs)))
    (λ q. ⊎_elim (λ r. inl (in_there x y xs r)) (λ r. inr r) (in_union x xs ys q))
    (in_cons x y (union xs ys) p.1))
    (cond-from (In x) (is_in y ys) (union xs ys) (y ∷ union xs ys) t)

pub in_union_right : (x : ℕ) (xs ys : List ℕ) → In x ys → In x (union xs ys)
unfolding union
in_union_right x [] ys t = t
in_union_right x (y ∷ xs) ys t =
    cond_cases (In x) (is_in y ys) (union xs ys) (y ∷ union xs ys) (λ _. in_union_right x xs ys t)
    (λ _. in_there x y (union xs ys) (in_union_right x xs ys t))

pub in_union_left : (x : ℕ) (xs ys : List ℕ) → In x xs → In x (union xs ys)
unfolding union
in_union_left x [] ys t = absurd (in_none x t)
in_union_left x (y ∷ xs) ys t =
    cond_cases (In x) (is_in y ys) (union xs ys) (y ∷ union xs ys)
    (λ q. ⊎_elim (λ e. in_union_right x xs ys (subst (λ z. In z ys) (sym e) q)) (λ h. in_union_left x xs ys h) (in_cons x y xs t))
    (λ _. ⊎_elim (λ e. subst (λ z. In x (z ∷ union xs ys)) e (in_here x (union xs ys)))
    (λ h. in_there x y (union xs ys) (in_union_left x xs ys h))
    (in_cons x y xs t))

pub distinct_union : (xs ys : List ℕ) → T (distinct xs) → T (distinct ys) → T (distinct (union xs ys))
unfolding union
distinct_union [] ys d e = e
distinct_union (x ∷ xs) ys d e =
    let rest = distinct_union xs ys (distinct_tail x xs d) e in
    cond_cases (λ l. T (distinct l)) (is_in x ys) (union xs ys) (x ∷ union xs ys) (λ _. rest)
    (λ n. distinct_cons x (union xs ys) (λ t. ⊎_elim (distinct_head x xs d) (T_not (is_in x ys) n) (in_union x xs ys t)) rest)

-- a union with what is there already changes nothing
pub union_within : (xs ys : List ℕ) → Within xs ys → union xs ys ≡ ys
unfolding union
union_within [] ys h = refl
union_within (x ∷ xs) ys h =
    cond-then (is_in x ys) (union xs ys) (x ∷ union xs ys) (h x (in_here x xs)) ∙ union_within xs ys (λ z t. h z (in_there z x xs t))

-- what is new stands in front
pub union_new : (x : ℕ) (xs ys : List ℕ) → (In x ys → ⊥) → union (x ∷ xs) ys ≡ x ∷ union xs ys
unfolding union
union_new x xs ys n = cond-else (is_in x ys) (union xs ys) (x ∷ union xs ys) (not_T (is_in x ys) n)

-- ---- a list without what stands in another
pub in_without : (x : ℕ) (done xs : List ℕ) → In x (without done xs) → In x xs × (In x done → ⊥)
unfolding without
in_without x done [] t = absurd (in_none x t)
in_without x done (y ∷ xs) t =
    ⊎_elim (λ p. let r = in_without x done xs p.1 in (in_there x y xs r.0, r.1))
    (λ p. ⊎_elim (λ e. (subst (λ z. In x (z ∷ xs)) e (in_here x xs), λ q. T_not (is_in y done) p.0 (subst (λ z. In z done) e q)))
    (λ q. let r = in_without x done xs q in (in_there x y xs r.0, r.1))
    (in_cons x y (without done xs) p.1))
    (cond-from (In x) (is_in y done) (without done xs) (y ∷ without done xs) t)

pub without_in : (x : ℕ) (done xs : List ℕ) → In x xs → (In x done → ⊥) → In x (without done xs)
unfolding without
without_in x done [] t n = t
without_in x done (y ∷ xs) t n =
    cond_cases (In x) (is_in y done) (without done xs) (y ∷ without done xs)
    (λ q. ⊎_elim (λ e. absurd (n (subst (λ z. In z done) (sym e) q))) (λ h. without_in x done xs h n) (in_cons x y xs t))
    (λ _. ⊎_elim (λ e. subst (λ z. In x (z ∷ without done xs)) e (in_here x (without done xs)))
    (λ h. in_there x y (without done xs) (without_in x done xs h n))
    (in_cons x y xs t))

pub distinct_without : (done xs : List ℕ) → T (distinct xs) → T (distinct (without done xs))
unfolding without
distinct_without done [] d = d
distinct_without done (x ∷ xs) d =
    let rest = distinct_without done xs (distinct_tail x xs d) in
    cond_cases (λ l. T (distinct l)) (is_in x done) (without done xs) (x ∷ without done xs) (λ _. rest)
    (λ _. distinct_cons x (without done xs) (λ t. distinct_head x xs d (in_without x done xs t).0) rest)

-- of two lists joined, what is left of each is joined
pub without_append : (done xs ys : List ℕ) → without done (xs ++ ys) ≡ without done xs ++ without done ys
unfolding without
without_append done [] ys = refl
without_append done (x ∷ xs) ys =
    let ih = without_append done xs ys in
    cond_cases (λ l. without done (x ∷ xs ++ ys) ≡ l ++ without done ys) (is_in x done) (without done xs) (x ∷ without done xs)
    (λ t. cond-then (is_in x done) _ _ t ∙ ih)
    (λ t. cond-else (is_in x done) _ _ t ∙ ap (λ l. x ∷ l) ih)

-- nothing is left of a list that stands in the other, and all of one that has nothing in common with it
pub without_all : (done xs : List ℕ) → Within xs done → without done xs ≡ []
unfolding without
without_all done [] h = refl
without_all done (x ∷ xs) h = cond-then (is_in x done) _ _ (h x (in_here x xs)) ∙ without_all done xs (λ z t. h z (in_there z x xs t))

pub without-none : (done xs : List ℕ) → ((x : ℕ) → In x xs → In x done → ⊥) → without done xs ≡ xs
unfolding without
without-none done [] h = refl
without-none done (x ∷ xs) h =
    cond-else (is_in x done) _ _ (not_T (is_in x done) (h x (in_here x xs))) ∙ ap (λ l. x ∷ l) (without-none done xs (λ z t. h z (in_there z x xs t)))

-- ---- how many different ones
pub different_in : (x : ℕ) (xs : List ℕ) → In x xs → different (x ∷ xs) ≡ different xs
unfolding different
different_in x xs t = cond-then (is_in x xs) (different xs) (suc (different xs)) t

pub different_new : (x : ℕ) (xs : List ℕ) → (In x xs → ⊥) → different (x ∷ xs) ≡ suc (different xs)
unfolding different
different_new x xs n = cond-else (is_in x xs) (different xs) (suc (different xs)) (not_T (is_in x xs) n)

pub different-none : different [] ≡ 0
unfolding different
different-none = refl

pub different≤length : (xs : List ℕ) → different xs ≤ length xs
unfolding different
different≤length [] = omega arith
different≤length (x ∷ xs) =
    let ih = different≤length xs in
    cond_cases (λ n. n ≤ suc (length xs)) (is_in x xs) (different xs) (suc (different xs)) (λ _. omega arith) (λ _. omega arith)

pub distinct-different : (xs : List ℕ) → T (distinct xs) → different xs ≡ length xs
distinct-different [] d = different-none
distinct-different (x ∷ xs) d = different_new x xs (distinct_head x xs d) ∙ ap suc (distinct-different xs (distinct_tail x xs d))

-- taking out a name that isn't there changes nothing
pub without_absent : (x : ℕ) (xs : List ℕ) → (In x xs → ⊥) → without (x ∷ []) xs ≡ xs
unfolding without
without_absent x [] n = refl
without_absent x (y ∷ xs) n =
    cond_cases (λ l. l ≡ y ∷ xs) (is_in y (x ∷ [])) (without (x ∷ []) xs) (y ∷ without (x ∷ []) xs)
    (λ s. absurd (n (subst (λ z. In z (y ∷ xs)) (in_single y x s) (in_here y xs))))
    (λ _. ap (λ l. y ∷ l) (without_absent x xs (λ h. n (in_there x y xs h))))

-- taking one name out of a list that has it leaves one different name less
pub different_less : (x : ℕ) (xs : List ℕ) → In x xs → different xs ≡ suc (different (without (x ∷ []) xs))
unfolding without
different_less x [] t = absurd (in_none x t)
different_less x (y ∷ xs) t =
    let left = without (x ∷ []) xs in
    cond_cases (λ l. different (y ∷ xs) ≡ suc (different l)) (is_in y (x ∷ [])) left (y ∷ left)
    (λ s. let e : y ≡ x = in_single y x s in
    ⊎_elim (λ h. different_in y xs h ∙ different_less x xs (subst (λ z. In z xs) e h))
    (λ n. different_new y xs n ∙ ap (λ l. suc (different l)) (sym (without_absent x xs (λ h. n (subst (λ z. In z xs) (sym e) h)))))
    (in_or_not y xs))
    (λ s.
    let apart : y ≡ x → ⊥ = λ e. T_not (is_in y (x ∷ [])) s (subst (λ z. In y (z ∷ [])) e (in_here y [])) in
    let h : In x xs = ⊎_elim (λ e. absurd (apart (sym e))) (λ k. k) (in_cons x y xs t) in
    let ih = different_less x xs h in
    ⊎_elim
    (λ k. different_in y xs k ∙ (ih ∙ ap suc (sym (different_in y left (without_in y (x ∷ []) xs k (λ q. apart (in_single y x q)))))))
    (λ n. different_new y xs n ∙ (ap suc ih ∙ ap suc (sym (different_new y left (λ q. n (in_without y (x ∷ []) xs q).0)))))
    (in_or_not y xs))

-- a list within another has no more different names
pub different_within : (xs ys : List ℕ) → Within xs ys → different xs ≤ different ys
different_within [] ys h = let e = different-none in omega arith
different_within (x ∷ xs) ys h =
    ⊎_elim
    (λ t. let e = different_in x xs t in let ih = different_within xs ys (λ z k. h z (in_there z x xs k)) in omega arith)
    (λ n.
    let e = different_new x xs n in
    let l = different_less x ys (h x (in_here x xs)) in
    let ih =
    different_within xs (without (x ∷ []) ys)
    (λ z k. without_in z (x ∷ []) ys (h z (in_there z x xs k)) (λ q. n (subst (λ w. In w xs) (in_single z x q) k))) in
    omega arith)
    (in_or_not x xs)

-- ---- each below a bound
pub below_in : (n : ℕ) (xs : List ℕ) → ((x : ℕ) → In x xs → x < n) → T (all_below n xs)
unfolding all_below
below_in n [] h = tt
below_in n (x ∷ xs) h =
    and_both (ltb x n) (all_below n xs) (lt→ltb x n (h x (in_here x xs))) (below_in n xs (λ z t. h z (in_there z x xs t)))

pub in_below : (n : ℕ) (xs : List ℕ) → T (all_below n xs) → (x : ℕ) → In x xs → x < n
unfolding all_below
in_below n [] t x h = absurd (in_none x h)
in_below n (y ∷ xs) t x h =
    ⊎_elim (λ e. subst (λ z. z < n) (sym e) (ltb→lt y n (and_left (ltb y n) (all_below n xs) t)))
    (λ k. in_below n xs (and_right (ltb y n) (all_below n xs) t) x k)
    (in_cons x y xs h)
