-- A file KEYS as it is written, and the laws that tie writing and reading: what is written is read back, and nothing else is read.
-- So these say in one line which bytes are a file KEYS, and of which secrets.

use Rattle.std.specs.Prelude.{◌≡◌, ℕ, T, ◌⊎◌, List, [], ◌∷◌, ◌++◌, length, Ok}
use Rattle.lines.specs.Hex.{hex_of, all_bytes}
use Rattle.scheme.specs.Keys.{parsed}

-- The file with all its line feeds, and the file without the last.
unfoldable pub written : List (List ℕ) → List ℕ
written [] = []
written (s ∷ secrets) = hex_of s ++ (10 ∷ written secrets)

unfoldable pub unended : List (List ℕ) → List ℕ
unended [] = []
unended (s ∷ []) = hex_of s
unended (s ∷ other ∷ secrets) = hex_of s ++ (10 ∷ unended (other ∷ secrets))

abbrev pub AreBytes : List ℕ → Type 0
AreBytes bytes = T (all_bytes bytes)

unfoldable pub AreSecrets : List (List ℕ) → Type 0
AreSecrets [] = Unit {0}
AreSecrets (s ∷ secrets) = ((length s ≡ 32) × AreBytes s) × AreSecrets secrets

abbrev pub ReadsBack : Type 0
ReadsBack = (k : ℕ) (secrets : List (List ℕ)) → AreSecrets secrets → parsed k (length secrets) (written secrets) ≡ Ok secrets

abbrev pub ReadsBackUnended : Type 0
ReadsBackUnended = (k : ℕ) (secrets : List (List ℕ)) → AreSecrets secrets → parsed k (length secrets) (unended secrets) ≡ Ok secrets

abbrev pub OnlyWritten : Type 0
OnlyWritten =
    (k n : ℕ) (text : List ℕ) (secrets : List (List ℕ)) → parsed k n text ≡ Ok secrets
    → (length secrets ≡ n) × AreSecrets secrets × ((text ≡ written secrets) ⊎ (text ≡ unended secrets))
