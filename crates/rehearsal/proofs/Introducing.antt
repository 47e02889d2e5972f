-- That a word for a load means one load, and what follows for a block that a line describes. Assumes nothing.
use Rattle.std.proofs.Common.{◌≡◌, ℕ, List, Option, Some, None, codes, sym, ◌∙◌, subst, ⊎_elim, arith}
use Rattle.book.specs.Memory.{Lent}
use Rattle.book.specs.Meeting.{block_of}
use Rattle.lines.specs.Hex.{Spells}
use Rattle.lines.proofs.Pairs.{spelled_even, spells_one}
use Rattle.rehearsal.specs.declared.committee.Committee.{Committee}
use Rattle.rehearsal.specs.Saying.{Described}
use Rattle.rehearsal.specs.Scenes.{Scene}
use Rattle.rehearsal.specs.Played.{Named, CantBeIn}
use Rattle.rehearsal.specs.Answering.{LoadIs, Introduced}

-- one digit less than any hexadecimal
not_hex : (bytes : List ℕ) → Spells (codes "-") bytes → ⊥
not_hex bytes s = let h = spelled_even (codes "-") bytes s in let two = h.0 in omega arith

load_one : (word xs ys : List ℕ) → LoadIs word xs → LoadIs word ys → xs ≡ ys
load_one word xs ys p q =
    ⊎_elim (λ a. ⊎_elim (λ b. a.1 ∙ sym b.1) (λ b. absurd (not_hex ys (subst (λ (w : List ℕ). Spells w ys) a.0 b))) q)
    (λ a. ⊎_elim (λ b. absurd (not_hex xs (subst (λ (w : List ℕ). Spells w xs) b.0 a))) (λ b. spells_one word xs ys a b) q) p

-- a block that was named, with a load that the line's word means, was introduced: the word means no other load
pub introduced : (l : Lent) (s : Scene) (d : Described) (load : List ℕ) (o : Option ℕ) (c : Committee) → LoadIs d.load load →
    Named l s d.word d.author d.round load d.parents o c → Introduced l s d o c
introduced l s d load (Some x) c is named = (load, is, named)
introduced l s d load None c is named = (
  λ load' is' names' can.
      subst (λ (bytes : List ℕ). CantBeIn l s.blocks (block_of d.author d.round names' bytes)) (load_one d.load load load' is is') (named.0 names' can),
  named.1,
)
