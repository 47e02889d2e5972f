-- Every program numbers its blocks in its own way: that the numbers don't matter. Assumes nothing.
use Rattle.std.specs.Prelude.{◌≡◌, List, map, ℕ, T}
use Rattle.model.specs.Names.{is_in, all_in}
use Rattle.model.specs.Blocks.{Block, Book}
use Rattle.model.specs.Order.{order}

-- the block with its parents' names changed
abbrev pub rename_parents : (ℕ → ℕ) → Block → Block
rename_parents rename k = record { author = k.author; round = k.round; parents = map rename k.parents; load = k.load }

-- all parents of what is in the web are in it
abbrev pub Closed : Book → List ℕ → Type 0
Closed b web = (x : ℕ) → T (is_in x web) → T (all_in (b x).parents web)

-- no two names of the web become one, and the second book has, under the new names, the first one's blocks
pub record Renames (rename : ℕ → ℕ) (b c : Book) (web : List ℕ) : Type 0 where
  pub apart : (x y : ℕ) → T (is_in x web) → T (is_in y web) → rename x ≡ rename y → x ≡ y
  pub carried : (x : ℕ) → T (is_in x web) → c (rename x) ≡ rename_parents rename (b x)

-- The order of the renamed web is the renamed order.
abbrev pub NamesDontMatter : Type 0
NamesDontMatter =
    (f : ℕ) (b c : Book) (rename : ℕ → ℕ) (web : List ℕ) → Closed b web → Renames rename b c web →
    order f c (map rename web) ≡ map rename (order f b web)
