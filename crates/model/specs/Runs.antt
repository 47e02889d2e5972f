-- That the promise isn't empty: a run after which blocks of all good members are ordered, one in which too many bad members break it, and a book
-- that has a name for every block. Assumes nothing.
use Rattle.std.specs.Prelude.{◌≡◌, Bool, false, ◌||◌, List, [], ◌∷◌, ℕ, T, ◌==◌}
use Rattle.model.specs.Thresholds.{members, bad_count}
use Rattle.model.specs.Blocks.{Block, Book}
use Rattle.model.specs.World.{Event, good, order_of}
use Rattle.model.specs.Promise.{Begins}

-- a block of member i stands in the list
unfoldable pub has_block_of : Book → ℕ → List ℕ → Bool
has_block_of b i [] = false
has_block_of b i (x ∷ xs) = (b x).author == i || has_block_of b i xs

-- With f = 1 and one bad member there is a run after which every good member's order holds a block of each good member.
abbrev pub SomethingIsOrdered : Type 0
SomethingIsOrdered =
    (b : Book) × (bad : ℕ → Bool) × (es : List Event) × (bad_count (members 1) bad ≡ 1) ×
    ((i j : ℕ) → T (good 1 bad i) → T (good 1 bad j) → T (has_block_of b j (order_of 1 b bad i es)))

-- With f = 1 and two bad members there is a run after which neither of two good members' orders is a beginning of the other.
abbrev pub TooManyBadDisagree : Type 0
TooManyBadDisagree =
    (b : Book) × (bad : ℕ → Bool) × (es : List Event) × (bad_count (members 1) bad ≡ 2) ×
    (i : ℕ) × (j : ℕ) × T (good 1 bad i) × T (good 1 bad j) ×
    (Begins (order_of 1 b bad i es) (order_of 1 b bad j es) → ⊥) × (Begins (order_of 1 b bad j es) (order_of 1 b bad i es) → ⊥)

-- There is a book with a name for every block, so what no dead end asks of a book can be had.
abbrev pub EveryBlockHasAName : Type 0
EveryBlockHasAName = (b : Book) × (name_of : Block → ℕ) × ((k : Block) → b (name_of k) ≡ k)

pub record NotEmpty : Type 0 where
  pub something_is_ordered : SomethingIsOrdered
  pub too_many_bad_disagree : TooManyBadDisagree
  pub every_block_has_a_name : EveryBlockHasAName
