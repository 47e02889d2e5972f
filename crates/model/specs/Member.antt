-- What one member holds, what it may sign, take in and make, and what it holds afterwards. Assumes nothing.
use Rattle.std.specs.Prelude.{Bool, false, cond, ◌&&◌, ◌||◌, not, List, [], ◌∷◌, ℕ, ◌+◌, ◌==◌}
use Rattle.model.specs.Names.{is_in, all_in}
use Rattle.model.specs.Blocks.{Book, valid}

-- web: the names of the blocks that it has taken in, the latest first; signed: the names that it has signed; round: the one for which it makes its next block
pub record Member : Type 0 where
  pub web : List ℕ
  pub signed : List ℕ
  pub round : ℕ

-- a member begins with nothing
abbrev pub new_member : Member
new_member = record { web = []; signed = []; round = 0 }

-- a rival of x, another block of its author and round, stands in the list
unfoldable pub rival : Book → ℕ → List ℕ → Bool
rival b x [] = false
rival b x (y ∷ ys) = (not (x == y) && (b x).author == (b y).author && (b x).round == (b y).round) || rival b x ys

-- It may sign a block that is valid, that is genuine (its author really made it), and of which it has signed no rival.
abbrev pub signable : ℕ → Book → Bool → ℕ → Member → Bool
signable f b genuine x m = valid f b (b x) && genuine && not (rival b x m.signed)

-- It may take in a certified block if it has taken in all its parents, doesn't have it yet, and has no rival of it.
abbrev pub takable : Book → Bool → ℕ → Member → Bool
takable b certified x m = certified && all_in (b x).parents m.web && not (is_in x m.web) && not (rival b x m.web)

-- Member i may make a block that is valid, its own, of its next round, and builds on its web.
abbrev pub makable : ℕ → Book → ℕ → ℕ → Member → Bool
makable f b i x m = valid f b (b x) && (b x).author == i && (b x).round == m.round && all_in (b x).parents m.web

-- to sign again what is signed changes nothing
abbrev pub after_sign : ℕ → Member → Member
after_sign x m = record { web = m.web; signed = cond (is_in x m.signed) m.signed (x ∷ m.signed); round = m.round }

abbrev pub after_take : ℕ → Member → Member
after_take x m = record { web = x ∷ m.web; signed = m.signed; round = m.round }

abbrev pub after_make : Member → Member
after_make m = record { web = m.web; signed = m.signed; round = m.round + 1 }
