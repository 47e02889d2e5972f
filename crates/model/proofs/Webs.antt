-- What the lemmas about webs ask of them: a sound web, and two webs that can stand in one committee. Nothing here speaks of worlds.
-- Assumes nothing.
use mathlib.Core.Path.{◌≡◌, sym}
use mathlib.Core.List.{List}
use Prim.Native.Nat.{ℕ}
use lib.Dec.{T}
use Rattle.model.specs.Names.{distinct}
use Rattle.model.specs.Blocks.{Book, valid}
use Rattle.model.proofs.Lists.{In}

-- a web that holds the parents of what it holds, only valid blocks, each once, and no two of one author and round
pub record SoundWeb (f : ℕ) (b : Book) (web : List ℕ) : Type 0 where
  pub closed : (x y : ℕ) → In x web → In y (b x).parents → In y web
  pub all_valid : (x : ℕ) → In x web → T (valid f b (b x))
  pub once : T (distinct web)
  pub alone : (x y : ℕ) → In x web → In y web → (b x).author ≡ (b y).author → (b x).round ≡ (b y).round → x ≡ y

-- two sound webs, of one author and round at most one block in both
pub record Compatible (f : ℕ) (b : Book) (web web' : List ℕ) : Type 0 where
  pub here : SoundWeb f b web
  pub there : SoundWeb f b web'
  pub one : (x y : ℕ) → In x web → In y web' → (b x).author ≡ (b y).author → (b x).round ≡ (b y).round → x ≡ y

-- a sound web goes with itself
pub itself : {f : ℕ} {b : Book} {web : List ℕ} → SoundWeb f b web → Compatible f b web web
itself s = record { here = s; there = s; one = s.alone }

pub swapped : {f : ℕ} {b : Book} {web web' : List ℕ} → Compatible f b web web' → Compatible f b web' web
swapped c = record { here = c.there; there = c.here; one = λ x y hx hy a r. sym (c.one y x hy hx (sym a) (sym r)) }
