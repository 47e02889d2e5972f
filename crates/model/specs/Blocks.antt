-- Blocks, the book that tells which block a name stands for, and which blocks are valid. Assumes nothing.
use Rattle.std.specs.Prelude.{Bool, true, cond, ◌&&◌, ◌||◌, List, [], ◌∷◌, ℕ, ◌-◌, ◌==◌, nat_lt, nat_le, length}
use Rattle.model.specs.Names.{distinct, different, all_below}
use Rattle.model.specs.Thresholds.{members, quorum}

-- author: the member that made it; round; parents: the names of the blocks that it builds on; load: the bytes that it carries
pub record Block : Type 0 where
  pub author : ℕ
  pub round : ℕ
  pub parents : List ℕ
  pub load : List ℕ

-- a book: which block a name stands for
abbrev pub Book : Type 0
Book = ℕ → Block

-- a block has at most so many parents, and so many bytes of load
abbrev pub max_parents : ℕ
max_parents = 64

abbrev pub max_load : ℕ
max_load = 256

-- a byte is below this
abbrev pub byte_limit : ℕ
byte_limit = 256

abbrev pub within_limits : Block → Bool
within_limits k = nat_le (length k.parents) max_parents && nat_le (length k.load) max_load && all_below byte_limit k.load

-- the authors, as far as they are members, of those blocks of the list that are of round r
unfoldable pub authors_at : ℕ → Book → ℕ → List ℕ → List ℕ
authors_at f b r [] = []
authors_at f b r (x ∷ xs) =
    cond ((b x).round == r && nat_lt (b x).author (members f)) ((b x).author ∷ authors_at f b r xs) (authors_at f b r xs)

-- each block of the list is of a round before r
unfoldable pub all_earlier : Book → ℕ → List ℕ → Bool
all_earlier b r [] = true
all_earlier b r (x ∷ xs) = nat_lt (b x).round r && all_earlier b r xs

-- A block is valid if its author is a member and its parents are different, all of earlier rounds, and, unless its round is 0, a quorum of
-- different authors' blocks of the round just before is among them. (In round 0 no round is earlier, so there are no parents.)
unfoldable pub valid : ℕ → Book → Block → Bool
valid f b k =
    nat_lt k.author (members f) && distinct k.parents && all_earlier b k.round k.parents
    && (k.round == 0 || nat_le (quorum f) (different (authors_at f b (k.round - 1) k.parents)))
