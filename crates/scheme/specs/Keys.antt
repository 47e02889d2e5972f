-- The file KEYS: a line for each member, its secret of 32 bytes as 64 lower-case hexadecimal digits.
-- A line ends with a line feed, which the last one may lack. Nothing else is allowed; the first line that is wrong gives the error.

use Rattle.std.specs.Prelude.{◌≡◌, ℕ, zero, suc, ◌+◌, cond, ◌⊎◌, List, [], ◌∷◌, ◌++◌, map, Some, None, Ok, Err, vec_items, codes, decimal, Option, Result, ◌==◌}
use Rattle.lines.specs.Hex.{array_of}
use Rattle.scheme.specs.declared.keys.Keys.{Keys}
use Rattle.scheme.specs.declared.keys.Secret.{Secret}
use Rattle.scheme.specs.declared.keys.Secrets.{Secrets}
use Rattle.scheme.specs.declared.keys.KeysError.{KeysError}
use Rattle.scheme.specs.declared.keys.KeysError.TheVariants.{NotASecret, Missing, TooMany, OutOfMemory}

-- The bytes of the members' secrets, in the order of the members.
abbrev pub keys_of : Keys → List (List ℕ)
keys_of keys = map (λ secret. secret.0) (vec_items keys.secrets)

-- The secret on a line: the 32 bytes that 64 digits write.
abbrev pub secret_of : List ℕ → Option (List ℕ)
secret_of line = array_of 32 line

-- The first line of a text, without its line feed, and what stands after it.
unfoldable pub first_line : List ℕ → List ℕ
first_line [] = []
first_line (b ∷ bs) = cond (b == 10) [] (b ∷ first_line bs)

unfoldable pub after_line : List ℕ → List ℕ
after_line [] = []
after_line (b ∷ bs) = cond (b == 10) bs (after_line bs)

-- A line's secret, before those of the lines that follow.
abbrev pub on_line : ℕ → Option (List ℕ) → Result (List (List ℕ)) KeysError → Result (List (List ℕ)) KeysError
on_line k None others = Err (NotASecret k)
on_line k (Some secret) (Ok others) = Ok (secret ∷ others)
on_line k (Some secret) (Err e) = Err e

-- The secrets in a text that has n lines, the first of which is line k; or the first error.
unfoldable pub parsed : ℕ → ℕ → List ℕ → Result (List (List ℕ)) KeysError
parsed k zero [] = Ok []
parsed k zero (b ∷ bs) = Err (TooMany k)
parsed k (suc n) [] = Err (Missing k)
parsed k (suc n) (b ∷ bs) = on_line k (secret_of (first_line (b ∷ bs))) (parsed (k + 1) n (after_line (b ∷ bs)))

-- What the lines give that a walk has not read yet.
abbrev pub left : Secrets → Result (List (List ℕ)) KeysError
left s = parsed s.line s.members s.rest.now

-- A step of the walk gives the first line's secret, or the error, or nothing, where the text has ended as it should.
abbrev pub Gives : Secrets → Option (Result Secret KeysError) → Secrets → Type 0
Gives s None t = left s ≡ Ok []
Gives s (Some (Ok secret)) t = left s ≡ on_line s.line (Some secret.0) (left t)
Gives s (Some (Err e)) t = left s ≡ Err e

-- An error is the text's own, or memory is wanting, and then the text has none.
abbrev pub Fails : KeysError → Result (List (List ℕ)) KeysError → Type 0
Fails e given = (given ≡ Err e) ⊎ ((e ≡ OutOfMemory) × (secrets : List (List ℕ)) × (given ≡ Ok secrets))

-- What an error prints.
abbrev pub told : KeysError → List ℕ
told (NotASecret k) = codes "line " ++ (decimal k ++ codes ": not 64 lower-case hexadecimal digits")
told (Missing k) = codes "line " ++ (decimal k ++ codes ": missing")
told (TooMany k) = codes "line " ++ (decimal k ++ codes ": one too many")
told OutOfMemory = codes "out of memory"
