-- That the notes have what happened to each block, as it happens. Assumes nothing.
use Rattle.std.proofs.Common.{◌≡◌, ℕ, ◌<◌, ◌≤◌, true, ◌||◌, eqb, List, ◌∷◌, length, get_or, set, Ok, Err, Result, refl, sym, ap, ◌∙◌, subst, ⊎_elim, arith}
use lib.Dec.{eqb_refl}
use Rattle.std.proofs.lemmas.List.{get_or-set_same, get_or-set_other, get_or_default}
use Rattle.std.proofs.lemmas.Bool.{cases_eq}
use Rattle.std.specs.Result.{IsOk}
use Rattle.members.specs.declared.MemberSet.{MemberSet}
use Rattle.members.specs.declared.NumberTooLarge.{NumberTooLarge}
use Rattle.members.specs.Sets.{Holds, Adds}
use Rattle.model.specs.Names.{is_in}
use Rattle.model.specs.World.{Signature, signers}
use Rattle.model.proofs.Tools.{is_true, is_false, cond-then, cond-else, not_eqb}
use Rattle.rehearsal.specs.declared.notes.Note.{Note}
use Rattle.rehearsal.specs.Noted.{no_note, Noted}

-- what holds of the new note, and of all as they were, holds of all
at_each : (P : ℕ → Note → Type 0) (notes : List Note) (i : ℕ) (new : Note) → i < length notes → P i new → ((x : ℕ) → (x ≡ i → ⊥) → P x (get_or notes x no_note)) →
    (x : ℕ) → P x (get_or (set notes i new) x no_note)
at_each P notes i new h here others x =
    ⊎_elim (λ e. subst (λ k. P k (get_or (set notes i new) k no_note)) (sym e) (subst (P i) (sym (get_or-set_same notes i new no_note h)) here))
    (λ ne. subst (P x) (sym (get_or-set_other notes i x new no_note ne)) (others x ne)) (cases_eq x i)

module _ (ss : List Signature) (made : List ℕ) (notes : List Note) (i : ℕ) (h : i < length notes) (old : Note) (is : old ≡ get_or notes i old) (noted : Noted ss made notes) where
  old_is : old ≡ get_or notes i no_note
  old_is = is ∙ get_or_default notes i old no_note h

  pub noted_made : Noted ss (i ∷ made) (set notes i (record { signers = old.signers; made = true }))
  unfolding is_in
  noted_made = record {
    signed = at_each (λ x n. Holds n.signers.bits (signers x ss)) notes i (record { signers = old.signers; made = true }) h
        (subst (λ (n : Note). Holds n.signers.bits (signers i ss)) (sym old_is) (noted.signed i)) (λ x ne. noted.signed x);
    made = at_each (λ x n. n.made ≡ is_in x (i ∷ made)) notes i (record { signers = old.signers; made = true }) h
        (ap (λ t. t || is_in i made) (sym (is_true (eqb i i) (eqb_refl i))))
        (λ x ne. noted.made x ∙ ap (λ t. t || is_in x made) (sym (is_false (eqb x i) (not_eqb x i ne))));
  }

  pub noted_signed : (who : ℕ) (new : Note) → Adds who old.signers.bits new.signers.bits → new.made ≡ old.made →
      Noted (record { who = who; name = i } ∷ ss) made (set notes i new)
  unfolding signers
  noted_signed who new adds same = record {
    signed = at_each (λ x n. Holds n.signers.bits (signers x (record { who = who; name = i } ∷ ss))) notes i new h
        (subst (Holds new.signers.bits) (sym (cond-then (eqb i i) (who ∷ signers i ss) (signers i ss) (eqb_refl i)))
        (adds (signers i ss) (subst (λ (n : Note). Holds n.signers.bits (signers i ss)) (sym old_is) (noted.signed i))))
        (λ x ne. subst (Holds (get_or notes x no_note).signers.bits) (sym (cond-else (eqb x i) (who ∷ signers x ss) (signers x ss) (not_eqb x i ne))) (noted.signed x));
    made = at_each (λ x n. n.made ≡ is_in x made) notes i new h (same ∙ ap (λ (n : Note). n.made) old_is ∙ noted.made i) (λ x ne. noted.made x);
  }

-- a member of a small number finds its place in a set
pub inserted : (member : ℕ) (old new : MemberSet) (r : Result (Unit {0}) NumberTooLarge) → member < 64 →
    elim r as (λ _. Type 0) [ Ok u ↦ (member < 64) × Adds member old.bits new.bits | Err e ↦ (64 ≤ member) × (new ≡ old) ] →
    IsOk r × Adds member old.bits new.bits
inserted member old new (Ok u) small told = (refl, told.1)
inserted member old new (Err e) small told = absurd (let h = told.0 in omega arith)
