-- What is noted of each block: who signed it, and whether a good member made it. Assumes nothing.
use Rattle.std.specs.Prelude.{◌≡◌, ℕ, false, List, slice_index_or}
use Rattle.members.specs.Sets.{Holds}
use Rattle.model.specs.Names.{is_in}
use Rattle.model.specs.World.{Signature, signers}
use Rattle.rehearsal.specs.declared.notes.Note.{Note}

-- nothing happened
abbrev pub no_note : Note
no_note = record { signers = record { bits = 0 }; made = false }

-- of every block: the notes have who signed it, by these signatures, and whether it is among these that were made
pub record Noted (ss : List Signature) (done : List ℕ) (notes : List Note) : Type 0 where
  pub signed : (x : ℕ) → Holds (slice_index_or notes x no_note).signers.bits (signers x ss)
  pub made : (x : ℕ) → (slice_index_or notes x no_note).made ≡ is_in x done
