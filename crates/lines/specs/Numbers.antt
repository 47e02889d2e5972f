-- The number that decimal digits write. Assumes nothing.
use Rattle.std.specs.Prelude.{◌≡◌, ℕ, ◌+◌, ◌-◌, ◌*◌, ◌<◌, Bool, true, ◌&&◌, T, List, [], ◌∷◌, length}
use Rattle.std.specs.Char.{is_ascii_digit}

unfoldable pub all_digits : List ℕ → Bool
all_digits [] = true
all_digits (b ∷ bs) = is_ascii_digit b && all_digits bs

-- the number that digits write, when those before them wrote n
unfoldable pub value_after : ℕ → List ℕ → ℕ
value_after n [] = n
value_after n (b ∷ bs) = value_after (n * 10 + (b - 48)) bs

-- one or more digits and nothing else, which write the number
pub record Writes (digits : List ℕ) (n : ℕ) : Type 0 where
  pub some : 0 < length digits
  pub all : T (all_digits digits)
  pub value : value_after 0 digits ≡ n
