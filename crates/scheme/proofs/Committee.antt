-- Secrets read line by line: what those so far and the lines left give together.
-- Assumes nothing.

use Rattle.std.proofs.Common.{◌≡◌, ℕ, zero, suc, ◌+◌, ◌<◌, List, [], ◌∷◌, ◌++◌, length, Some, None, Ok, Err, Option, Result, sym, refl, ap, ◌∙◌, append_assoc, arith}
use Rattle.std.specs.Option.{option_map, ok_or}
use Rattle.scheme.specs.declared.keys.Secret.{Secret}
use Rattle.scheme.specs.declared.keys.Secrets.{Secrets}
use Rattle.scheme.specs.declared.keys.KeysError.{KeysError}
use Rattle.scheme.specs.declared.keys.KeysError.TheVariants.{NotASecret, Missing, TooMany}
use Rattle.scheme.specs.Keys.{secret_of, first_line, after_line, on_line, parsed, left, Gives}

-- Secrets before those that lines give, if they give any.
abbrev pub added : List (List ℕ) → Result (List (List ℕ)) KeysError → Result (List (List ℕ)) KeysError
added secrets (Ok more) = Ok (secrets ++ more)
added secrets (Err e) = Err e

-- A text with a line to read.
pub parsed_line : (k n : ℕ) (r : List ℕ) → 0 < length r → parsed k (suc n) r ≡ on_line k (secret_of (first_line r)) (parsed (k + 1) n (after_line r))
unfolding parsed
parsed_line k n [] h = absurd (omega arith)
parsed_line k n (b ∷ bs) h = refl

added_line : (k : ℕ) (done : List (List ℕ)) (secret : List ℕ) (others : Result (List (List ℕ)) KeysError)
    → added done (on_line k (Some secret) others) ≡ added (done ++ (secret ∷ [])) others
added_line k done secret (Ok others) = ap Ok (sym (append_assoc done (secret ∷ []) others))
added_line k done secret (Err e) = refl

-- What the next line of a text gives, by what is left: k is its number, and n members' lines are to come.
pub ended : (k n : ℕ) (r : List ℕ) → n ≡ 0 → length r ≡ 0 → parsed k n r ≡ Ok []
unfolding parsed
ended k zero [] e h = refl
ended k zero (b ∷ bs) e h = absurd (omega arith)
ended k (suc n) r e h = absurd (omega arith)

pub too_many : (k n : ℕ) (r : List ℕ) → n ≡ 0 → 0 < length r → parsed k n r ≡ Err (TooMany k)
unfolding parsed
too_many k zero [] e h = absurd (omega arith)
too_many k zero (b ∷ bs) e h = refl
too_many k (suc n) r e h = absurd (omega arith)

pub missing : (k n : ℕ) (r : List ℕ) → 0 < n → length r ≡ 0 → parsed k n r ≡ Err (Missing k)
unfolding parsed
missing k zero r some h = absurd (omega arith)
missing k (suc n) [] some h = refl
missing k (suc n) (b ∷ bs) some h = absurd (omega arith)

-- m members' lines come after this one, which has this secret or none.
pub one_line : (k n m : ℕ) (r : List ℕ) (secret : Option (List ℕ)) → n ≡ suc m → 0 < length r → secret ≡ secret_of (first_line r)
    → parsed k n r ≡ on_line k secret (parsed (k + 1) m (after_line r))
one_line k n m r secret e h is =
    ap (λ l. parsed k l r) e ∙ parsed_line k m r h ∙ ap (λ o. on_line k o (parsed (k + 1) m (after_line r))) (sym is)

-- A step that reads a line: its secret, or the error that it has none.
pub gives_line : (s t : Secrets) (secret : Option Secret) → left s ≡ on_line s.line (option_map (λ x. x.0) secret) (left t)
    → Gives s (Some (ok_or secret (NotASecret s.line))) t
gives_line s t None e = e
gives_line s t (Some secret) e = e

-- A turn of a loop over the secrets: one more stands before those of the lines that are left.
pub added_one : (k : ℕ) (done : List (List ℕ)) (secret : List ℕ) (all here others : Result (List (List ℕ)) KeysError)
    → all ≡ added done here → here ≡ on_line k (Some secret) others → all ≡ added (done ++ (secret ∷ [])) others
added_one k done secret all here others so_far e = so_far ∙ ap (added done) e ∙ added_line k done secret others
