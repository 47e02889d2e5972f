-- What a set of members, kept as the bits of a number, holds: lists of members, each list as a set. Assumes nothing.
use Rattle.std.specs.Prelude.{◌≡◌, ℕ, ◌/◌, ◌%◌, ◌^◌, ◌<◌, Bool, T, List, ◌∷◌, ◌==◌, count_ones}
use Rattle.model.specs.Names.{is_in, different, all_below}

-- bit i of the number is set
unfoldable pub has_bit : ℕ → ℕ → Bool
has_bit i bits = bits / 2 ^ i % 2 == 1

-- members of a set are below this
abbrev pub limit : ℕ
limit = 64

-- The number holds the list: the list's members are below the limit, the set bits are its members, and there are as many set bits as it has
-- different members.
pub record Holds (bits : ℕ) (xs : List ℕ) : Type 0 where
  pub below : T (all_below limit xs)
  pub has : (i : ℕ) → has_bit i bits ≡ is_in i xs
  pub count : count_ones bits ≡ different xs

-- what is said of each list that the number holds
abbrev pub EachList : ℕ → (List ℕ → Type 0) → Type 0
EachList bits P = (xs : List ℕ) → Holds bits xs → P xs

-- one more member: whatever list the old number held, the new one holds with the member in front
abbrev pub Adds : ℕ → ℕ → ℕ → Type 0
Adds member old new = EachList old (λ xs. Holds new (member ∷ xs))

-- A set and the lists that it holds pin each other: every number of 64 bits holds some list, and only one number holds a list.
pub record ListsPinSets : Type 0 where
  pub some_list : (bits : ℕ) → bits < 2 ^ limit → (xs : List ℕ) × Holds bits xs
  pub one_set : (a b : ℕ) → a < 2 ^ limit → b < 2 ^ limit → (xs : List ℕ) → Holds a xs → Holds b xs → a ≡ b
