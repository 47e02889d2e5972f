-- What is written is read back, and nothing else is read: the laws of a file KEYS.
-- Assumes nothing.

use Rattle.std.proofs.Common.{◌≡◌, ℕ, zero, suc, ◌+◌, ◌*◌, ◌/◌, ◌%◌, ◌<◌, ◌≤◌, true, false, eqb, ltb, ◌⊎◌, List, [], ◌∷◌, ◌++◌, length, Some, None, Ok, Err, Option, Result, sym, refl, ap, ◌∙◌, subst, inl, inr, ⊎_elim, arith, length-append}
use Rattle.std.proofs.lemmas.Bool.{cases_Bool, cond-true, cond-false, cond_both, eq-eqb, eqb-true, ne_eqb}
use Rattle.scheme.specs.declared.keys.KeysError.{KeysError}
use Rattle.lines.specs.Hex.{character_of, decoded, hex_of}
use Rattle.lines.proofs.Pairs.{spelled_decoded, decoded_written}
use Rattle.scheme.specs.Keys.{secret_of, first_line, after_line, on_line, parsed}
use Rattle.scheme.specs.Written.{written, unended, AreBytes, AreSecrets, ReadsBack, ReadsBackUnended, OnlyWritten}
use Rattle.scheme.proofs.Committee.{parsed_line}

none_some : {A : Type 0} (a : A) → None ≡ Some a → ⊥
none_some a e = let z : ◌≡◌ {A = ℕ} 0 1 = cc in omega arith

-- ---- secrets
length-hex_of : (s : List ℕ) → length (hex_of s) ≡ 2 * length s
unfolding hex_of
length-hex_of [] = refl
length-hex_of (b ∷ bs) = let ih = length-hex_of bs in omega arith

secret_back : (s : List ℕ) → length s ≡ 32 → AreBytes s → secret_of (hex_of s) ≡ Some s
secret_back s long a =
    let digits = length-hex_of s in
    let all : length (hex_of s) ≡ 64 = omega arith in
    cond-true (eqb (length (hex_of s)) 64) (decoded (hex_of s)) None (eq-eqb (length (hex_of s)) 64 all)
    ∙ spelled_decoded (hex_of s) s (record { some = omega arith; all = a; is = refl })

secret_inverse : (line s : List ℕ) → secret_of line ≡ Some s → (line ≡ hex_of s) × ((length s ≡ 32) × AreBytes s)
secret_inverse line s e = ⊎_elim right wrong (cases_Bool (eqb (length line) 64))
  where
    right : eqb (length line) 64 ≡ true → (line ≡ hex_of s) × ((length s ≡ 32) × AreBytes s)
    right t =
        let inverse = decoded_written line s (sym (cond-true (eqb (length line) 64) (decoded line) None t) ∙ e) in
        let digits = length-hex_of s in
        let long : length line ≡ 64 = eqb-true (length line) 64 t in
        let same : length (hex_of s) ≡ length line = ap length inverse.0 in
        (sym inverse.0, (omega arith, inverse.1))

    wrong : eqb (length line) 64 ≡ false → (line ≡ hex_of s) × ((length s ≡ 32) × AreBytes s)
    wrong f = absurd (none_some s (sym (cond-false (eqb (length line) 64) (decoded line) None f) ∙ e))

-- ---- lines
character_above : (v : ℕ) → 48 ≤ character_of v
character_above v = cond_both (ltb v 10) (48 + v) (87 + v) (λ d. 48 ≤ d) (λ e. omega arith) (λ e. omega arith)

unfoldable NoFeed : List ℕ → Type 0
NoFeed [] = Unit {0}
NoFeed (b ∷ bs) = (b ≡ 10 → ⊥) × NoFeed bs

digits_no_feed : (s : List ℕ) → NoFeed (hex_of s)
unfolding hex_of NoFeed
digits_no_feed [] = tt
digits_no_feed (b ∷ bs) =
    let first = character_above (b / 16) in
    let second = character_above (b % 16) in
    ((λ e. omega arith), ((λ e. omega arith), digits_no_feed bs))

first_line-ended : (ds rest : List ℕ) → NoFeed ds → first_line (ds ++ (10 ∷ rest)) ≡ ds
unfolding first_line NoFeed
first_line-ended [] rest h = refl
first_line-ended (d ∷ ds) rest h = cond-false (eqb d 10) _ _ (ne_eqb d 10 h.0) ∙ ap (λ l. d ∷ l) (first_line-ended ds rest h.1)

after_line-ended : (ds rest : List ℕ) → NoFeed ds → after_line (ds ++ (10 ∷ rest)) ≡ rest
unfolding after_line NoFeed
after_line-ended [] rest h = refl
after_line-ended (d ∷ ds) rest h = cond-false (eqb d 10) _ _ (ne_eqb d 10 h.0) ∙ after_line-ended ds rest h.1

first_line_last : (ds : List ℕ) → NoFeed ds → first_line ds ≡ ds
unfolding first_line NoFeed
first_line_last [] h = refl
first_line_last (d ∷ ds) h = cond-false (eqb d 10) _ _ (ne_eqb d 10 h.0) ∙ ap (λ l. d ∷ l) (first_line_last ds h.1)

after_line_last : (ds : List ℕ) → NoFeed ds → after_line ds ≡ []
unfolding after_line NoFeed
after_line_last [] h = refl
after_line_last (d ∷ ds) h = cond-false (eqb d 10) _ _ (ne_eqb d 10 h.0) ∙ after_line_last ds h.1

-- A text is its first line, a line feed and the rest; or it is one line, with none.
split : (t : List ℕ) → (t ≡ first_line t ++ (10 ∷ after_line t)) ⊎ ((t ≡ first_line t) × (after_line t ≡ []))
unfolding first_line after_line
split [] = inr (refl, refl)
split (b ∷ bs) = ⊎_elim feed (λ f. ⊎_elim (more f) (last f) (split bs)) (cases_Bool (eqb b 10))
  where
    feed : eqb b 10 ≡ true → (b ∷ bs ≡ first_line (b ∷ bs) ++ (10 ∷ after_line (b ∷ bs))) ⊎ ((b ∷ bs ≡ first_line (b ∷ bs)) × (after_line (b ∷ bs) ≡ []))
    feed t =
        inl (ap (λ c. c ∷ bs) (eqb-true b 10 t)
        ∙ sym (ap (λ l. l ++ (10 ∷ after_line (b ∷ bs))) (cond-true (eqb b 10) _ _ t) ∙ ap (λ r. 10 ∷ r) (cond-true (eqb b 10) _ _ t)))

    more : eqb b 10 ≡ false → bs ≡ first_line bs ++ (10 ∷ after_line bs)
        → (b ∷ bs ≡ first_line (b ∷ bs) ++ (10 ∷ after_line (b ∷ bs))) ⊎ ((b ∷ bs ≡ first_line (b ∷ bs)) × (after_line (b ∷ bs) ≡ []))
    more f e =
        inl (ap (λ r. b ∷ r) e
        ∙ sym (ap (λ l. l ++ (10 ∷ after_line (b ∷ bs))) (cond-false (eqb b 10) _ _ f)
        ∙ ap (λ r. (b ∷ first_line bs) ++ (10 ∷ r)) (cond-false (eqb b 10) _ _ f)))

    last : eqb b 10 ≡ false → (bs ≡ first_line bs) × (after_line bs ≡ [])
        → (b ∷ bs ≡ first_line (b ∷ bs) ++ (10 ∷ after_line (b ∷ bs))) ⊎ ((b ∷ bs ≡ first_line (b ∷ bs)) × (after_line (b ∷ bs) ≡ []))
    last f e = inr (ap (λ r. b ∷ r) e.0 ∙ sym (cond-false (eqb b 10) _ _ f), cond-false (eqb b 10) _ _ f ∙ e.1)

-- ---- files
ended_line : (k n : ℕ) (s rest : List ℕ) → length s ≡ 32 → AreBytes s
    → parsed k (suc n) (hex_of s ++ (10 ∷ rest)) ≡ on_line k (Some s) (parsed (k + 1) n rest)
ended_line k n s rest long a =
    let clean = digits_no_feed s in
    let size = length-append (hex_of s) (10 ∷ rest) in
    let some : 0 < length (hex_of s ++ (10 ∷ rest)) = omega arith in
    parsed_line k n (hex_of s ++ (10 ∷ rest)) some
    ∙ ap (λ l. on_line k (secret_of l) (parsed (k + 1) n (after_line (hex_of s ++ (10 ∷ rest))))) (first_line-ended (hex_of s) rest clean)
    ∙ ap (λ o. on_line k o (parsed (k + 1) n (after_line (hex_of s ++ (10 ∷ rest))))) (secret_back s long a)
    ∙ ap (λ r. on_line k (Some s) (parsed (k + 1) n r)) (after_line-ended (hex_of s) rest clean)

last_line : (k n : ℕ) (s : List ℕ) → length s ≡ 32 → AreBytes s → parsed k (suc n) (hex_of s) ≡ on_line k (Some s) (parsed (k + 1) n [])
last_line k n s long a =
    let clean = digits_no_feed s in
    let size = length-hex_of s in
    let some : 0 < length (hex_of s) = omega arith in
    parsed_line k n (hex_of s) some
    ∙ ap (λ l. on_line k (secret_of l) (parsed (k + 1) n (after_line (hex_of s)))) (first_line_last (hex_of s) clean)
    ∙ ap (λ o. on_line k o (parsed (k + 1) n (after_line (hex_of s)))) (secret_back s long a)
    ∙ ap (λ r. on_line k (Some s) (parsed (k + 1) n r)) (after_line_last (hex_of s) clean)

pub reads_back : ReadsBack
unfolding parsed written AreSecrets
reads_back k [] a = refl
reads_back k (s ∷ ss) a =
    ended_line k (length ss) s (written ss) a.0.0 a.0.1 ∙ ap (on_line k (Some s)) (reads_back (k + 1) ss a.1)

pub reads_back_unended : ReadsBackUnended
unfolding parsed unended AreSecrets
reads_back_unended k [] a = refl
reads_back_unended k (s ∷ []) a = last_line k 0 s a.0.0 a.0.1
reads_back_unended k (s ∷ o ∷ ss) a =
    ended_line k (length (o ∷ ss)) s (unended (o ∷ ss)) a.0.0 a.0.1
    ∙ ap (on_line k (Some s)) (reads_back_unended (k + 1) (o ∷ ss) a.1)

ok_inj : {A : Type 0} (a b : A) → ◌≡◌ {A = Result A KeysError} (Ok a) (Ok b) → a ≡ b
ok_inj a b e = cc

err_ok : {A : Type 0} (x : KeysError) (a : A) → ◌≡◌ {A = Result A KeysError} (Err x) (Ok a) → ⊥
err_ok x a e = let z : ◌≡◌ {A = ℕ} 0 1 = cc in omega arith

-- A text of n lines, as it is written.
abbrev Good : ℕ → List ℕ → List (List ℕ) → Type 0
Good n text secrets = (length secrets ≡ n) × AreSecrets secrets × ((text ≡ written secrets) ⊎ (text ≡ unended secrets))

none_left : (k n : ℕ) (others : List (List ℕ)) → parsed k n [] ≡ Ok others → others ≡ []
unfolding parsed
none_left k zero others e = sym (ok_inj [] others e)
none_left k (suc n) others e = absurd (err_ok _ others e)

joins : (t s rest : List ℕ) (others : List (List ℕ)) → t ≡ hex_of s ++ (10 ∷ rest) → (rest ≡ written others) ⊎ (rest ≡ unended others)
    → (t ≡ written (s ∷ others)) ⊎ (t ≡ unended (s ∷ others))
unfolding written unended
joins t s rest [] e either = inl (e ∙ ap (λ r. hex_of s ++ (10 ∷ r)) (⊎_elim (λ w. w) (λ u. u) either))
joins t s rest (other ∷ others) e either =
    ⊎_elim (λ w. inl (e ∙ ap (λ r. hex_of s ++ (10 ∷ r)) w)) (λ u. inr (e ∙ ap (λ r. hex_of s ++ (10 ∷ r)) u)) either

ends : (t s : List ℕ) (others : List (List ℕ)) → t ≡ hex_of s → others ≡ [] → t ≡ unended (s ∷ others)
unfolding unended
ends t s others e none = e ∙ ap (λ os. unended (s ∷ os)) (sym none)

line : (k n : ℕ) (t : List ℕ) (o : Option (List ℕ)) (r : Result (List (List ℕ)) KeysError) (secrets : List (List ℕ))
    → secret_of (first_line t) ≡ o → parsed (k + 1) n (after_line t) ≡ r
    → ((others : List (List ℕ)) → r ≡ Ok others → Good n (after_line t) others) → on_line k o r ≡ Ok secrets → Good (suc n) t secrets
unfolding AreSecrets
line k n t None r secrets es er ih e = absurd (err_ok _ secrets e)
line k n t (Some s) (Err x) secrets es er ih e = absurd (err_ok x secrets e)
line k n t (Some s) (Ok others) secrets es er ih e =
    let secrets-are : s ∷ others ≡ secrets = ok_inj (s ∷ others) secrets e in
    let inverse = secret_inverse (first_line t) s es in
    let rest = ih others refl in
    let texts : (t ≡ written (s ∷ others)) ⊎ (t ≡ unended (s ∷ others))
    = ⊎_elim
    (λ a. joins t s (after_line t) others (a ∙ ap (λ l. l ++ (10 ∷ after_line t)) inverse.0) rest.2)
    (λ a. inr (ends t s others (a.0 ∙ inverse.0) (none_left (k + 1) n others (ap (parsed (k + 1) n) (sym a.1) ∙ er))))
    (split t) in
    subst (Good (suc n) t) secrets-are (ap suc rest.0, (inverse.1, rest.1), texts)

pub only_written : OnlyWritten
unfolding parsed written AreSecrets
only_written k zero [] secrets e =
    let none : [] ≡ secrets = ok_inj [] secrets e in
    subst (Good 0 []) none (refl, tt, inl refl)
only_written k zero (b ∷ bs) secrets e = absurd (err_ok _ secrets e)
only_written k (suc n) [] secrets e = absurd (err_ok _ secrets e)
only_written k (suc n) (b ∷ bs) secrets e =
    line k n (b ∷ bs) (secret_of (first_line (b ∷ bs))) (parsed (k + 1) n (after_line (b ∷ bs))) secrets refl refl
    (λ others e'. only_written (k + 1) n (after_line (b ∷ bs)) others e') e
