-- Books that grow: the names that events speak of, and books that agree on them. Assumes nothing.
use Rattle.std.specs.Prelude.{◌≡◌, ℕ, ◌<◌, Bool, true, ◌&&◌, T, List, [], ◌∷◌, nat_lt}
use Rattle.model.specs.Names.{all_below}
use Rattle.model.specs.Blocks.{Book}
use Rattle.model.specs.World.{Event, Makes, Signs, Takes, Forges}

-- the name of the block that an event is about
abbrev pub name_of : Event → ℕ
name_of (Makes i x) = x
name_of (Signs i x) = x
name_of (Takes i x) = x
name_of (Forges i x) = x

-- all events are about names below n
unfoldable pub about_below : ℕ → List Event → Bool
about_below n [] = true
about_below n (e ∷ es) = nat_lt (name_of e) n && about_below n es

-- the second book has the first one's blocks under the names below n, and the parents of these are such names too
pub record SameBelow (n : ℕ) (b c : Book) : Type 0 where
  pub same : (x : ℕ) → x < n → b x ≡ c x
  pub closed : (x : ℕ) → x < n → T (all_below n (b x).parents)
