-- Words for blocks: what a word stands for, and which word was given to a block first. Assumes nothing.
use Rattle.std.specs.Prelude.{ℕ, cond, List, [], ◌∷◌, Some, None, Option, ◌==◌}
use Rattle.std.specs.Str.{bytes_eq}

-- the word stands for the block of this name
pub record Naming : Type 0 where
  pub text : List ℕ
  pub name : ℕ

-- the name of the block that a word stands for
unfoldable pub name_in : List ℕ → List Naming → Option ℕ
name_in text [] = None
name_in text (n ∷ ns) = cond (bytes_eq text n.text) (Some n.name) (name_in text ns)

-- the names of the blocks that words stand for, if each stands for one
abbrev pub in_front : ℕ → Option (List ℕ) → Option (List ℕ)
in_front x None = None
in_front x (Some xs) = Some (x ∷ xs)

abbrev pub then_names : Option ℕ → Option (List ℕ) → Option (List ℕ)
then_names None rest = None
then_names (Some x) rest = in_front x rest

unfoldable pub names_in : List (List ℕ) → List Naming → Option (List ℕ)
names_in [] ns = Some []
names_in (text ∷ texts) ns = then_names (name_in text ns) (names_in texts ns)

-- the first word that was given to a block; no bytes if it has none
unfoldable pub text_for : ℕ → List Naming → List ℕ
text_for name [] = []
text_for name (n ∷ ns) = cond (n.name == name) n.text (text_for name ns)
