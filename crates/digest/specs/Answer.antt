-- What the program prints for a line, but for the line's end.

use Rattle.std.specs.Prelude.{ℕ, List, ◌∷◌, ◌++◌, Some, None, codes, Option}
use Rattle.sha3.specs.Sponge.{sha3_256, sha3_512}
use Rattle.lines.specs.Hex.{decoded, hex_of}

-- SHA3-256 of a message, a space, and SHA3-512.
unfoldable pub digests_of : List ℕ → List ℕ
digests_of m = hex_of (sha3_256 m) ++ 32 ∷ hex_of (sha3_512 m)

abbrev pub answered : Option (List ℕ) → List ℕ
answered None = codes "no"
answered (Some m) = digests_of m

unfoldable pub answer_of : List ℕ → List ℕ
answer_of line = answered (decoded line)
