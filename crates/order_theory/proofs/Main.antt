-- THE RESULT: the steps on tables write the order of the definition, and say how long it is. Assumes nothing.
use Rattle.std.proofs.Common.{◌≡◌, ℕ, zero, suc, ◌+◌, ◌*◌, ◌/◌, ◌<◌, ◌≤◌, T, List, [], ◌∷◌, length, get_or, Some, None, Option, sym, refl, ap, ◌∙◌, ⊎_elim, arith}
use lib.ListN.{length-replicate}
use Rattle.model.specs.Names.{distinct}
use Rattle.model.specs.Thresholds.{members}
use Rattle.model.specs.Blocks.{Book}
use Rattle.model.specs.Order.{Sought, Missing, Found, last_round, anchors_to, anchors_from, anchors_of, listed, order}
use Rattle.model.specs.Promise.{whole_all}
use Rattle.model.specs.Seat.{fit, padded}
use Rattle.model.proofs.Lists.{In, in_none, distinct_none}
use Rattle.model.proofs.Webs.{SoundWeb}
use Rattle.order_theory.specs.Tables.{place_of, names_of, marks_of, last_voted_at, Marked, Written, all_linked, all_written}
use Rattle.order_theory.specs.Tables.{marked_from, written_by, steps_on, StepsWriteOrder}
use Rattle.order_theory.proofs.Sound.{sound_web, rounds_few, rows_fit}
use Rattle.order_theory.proofs.Places.{place_before, Tabled, noughts, noughts_at, less_or_not, entered, entered_low, marks_length}
use Rattle.order_theory.proofs.Votes.{Matches, last_same, leader_place_lem}
use Rattle.order_theory.proofs.Marks.{FoundAll, marked_from_lem, anchors_few}
use Rattle.order_theory.proofs.Chains.{all_linked_lem, wrote}
use Rattle.order_theory.proofs.Steps.{written_is}
use Rattle.order_theory.proofs.Listing.{all_listed}

pad_none : (n : ℕ) → padded n [] ≡ noughts n
unfolding padded
pad_none zero = refl
pad_none (suc n) = ap (λ u. 0 ∷ u) (pad_none n)

nothing_written : (out : List ℕ) → out ≡ noughts 4096 → ◌≡◌ {A = Written} (record { out = out; count = 0 }) (wrote [])
nothing_written out e = written_is (wrote []) out 0 (e ∙ sym (pad_none 4096)) refl

module _ {f : ℕ} {b : Book} {web : List ℕ} (sound : SoundWeb f b web) (few : f ≤ 4) (short : length web ≤ 4096) where
  round_small : (x : ℕ) → In x web → (((b x).round + 1) * members f ≤ 6400) × ((b x).round < 4096)
  round_small x h = let l = rounds_few sound x h in rows_fit f (b x).round few (omega arith)

  place_small : (x : ℕ) → In x web → place_of (members f) b x < 6400
  place_small x h =
      let p = place_before sound x ((b x).round + 1) h (omega arith) in
      let q = (round_small x h).0 in
      omega arith

  -- from the marks and the number of anchors, the order is written
  written_from_lem :
      (all names : List ℕ) (t : Marked) (heads nexts : List ℕ) → FoundAll sound names all t → length all < 2049 → length heads ≡ 2050 →
      ((m : ℕ) → get_or heads m 0 ≡ 0) → length nexts ≡ 6400 →
      all_written names (all_linked t.marks (length t.marks) (record { heads = heads; nexts = nexts })) t.anchors (wrote [])
      ≡ wrote (listed b [] all)
  written_from_lem all names t heads nexts found l hs none ns =
      let marks = t.marks in
      let sunk = found.sunk in
      let low : (s : ℕ) → get_or marks s 0 < 2050 =
      λ s. ⊎_elim
      (λ h.
      let r = sunk.tabled.from s h in
      let m = sunk.most r.0 r.1 in
      let e = ap (λ (q : ℕ). get_or marks q 0) r.2 in
      omega arith)
      (λ h. omega arith)
      (less_or_not 0 (get_or marks s 0)) in
      let links = all_linked marks (length marks) (record { heads = heads; nexts = nexts }) in
      let groups =
      all_linked_lem marks 2050 low (record { heads = heads; nexts = nexts }) hs
      (λ s h.
      let r = sunk.tabled.from s (omega arith) in
      let p = place_small r.0 r.1 in
      let e = r.2 in
      omega arith)
      none in
      ap (λ (k : ℕ). all_written names links k (wrote [])) found.count
      ∙ all_listed sound short names marks sunk.tabled all sunk 2050 low links groups all [] sunk.right sunk.own distinct_none
      (λ z h. absurd (in_none z h)) (λ z h. absurd (in_none z h))
      (λ z h k. let m = sunk.most z h in absurd (omega arith))

  abbrev names₀ : List ℕ
  names₀ = names_of (members f) b web (noughts 6400)

  abbrev marks₀ : List ℕ
  marks₀ = marks_of (members f) b web (noughts 6400)

  tabled₀ : Tabled (members f) b web names₀ marks₀
  tabled₀ = entered sound 6400 place_small

  -- by what is found as the last anchor
  by_last :
      (o : Option ℕ) (m : Sought) → Matches sound tabled₀ o m →
      written_by (members f) b names₀ marks₀ (noughts 4096) o ≡ wrote (listed b [] (anchors_from f b web m))
  unfolding listed
  by_last None Missing h = nothing_written (noughts 4096) refl
  by_last None (Found x) h = absurd h
  by_last (Some k) Missing h = absurd h
  by_last (Some k) (Found x) h =
      let t = marked_from (members f) b k names₀ marks₀ in
      let l = leader_place_lem sound tabled₀ k x h in
      let r = l.2 in
      let s = (round_small x l.0).1 in
      let e : (b x).round / 2 ≡ k = omega arith in
      let a = anchors_few sound names₀ k x in
      let size = marks_length (members f) b web (noughts 6400) ∙ length-replicate {A = ℕ} 6400 0 in
      let found =
      marked_from_lem sound names₀ k x marks₀ tabled₀ (λ y hy. let p = place_small y hy in omega arith) (entered_low sound 6400 place_small) h in
      ap (λ w. all_written names₀ (all_linked t.marks (length t.marks) (record { heads = noughts 2050; nexts = noughts 6400 })) t.anchors w)
      (nothing_written (noughts 4096) refl)
      ∙ (written_from_lem (anchors_to f b web k x) names₀ t (noughts 2050) (noughts 6400) found (omega arith)
      (length-replicate {A = ℕ} 2050 0) (noughts_at 2050)
      (length-replicate {A = ℕ} 6400 0)
      ∙ ap (λ (j : ℕ). wrote (listed b [] (anchors_to f b web j x))) (sym e))

  -- The steps write the order.
  order-written :
      written_by (members f) b names₀ marks₀ (noughts 4096) (last_voted_at f (members f) b names₀ marks₀ (last_round b web / 2 + 1))
      ≡ wrote (order f b web)
  unfolding order anchors_of
  order-written = by_last _ _ (last_same sound tabled₀ (last_round b web / 2 + 1))

pub steps_write_order : StepsWriteOrder
steps_write_order f b web whole once fits few short = order-written (sound_web f b web whole once fits) few short

-- the same, from what a program holds: its tables, the number of even rounds, and the last anchor's
pub written_by_lem :
    (f : ℕ) (b : Book) (web : List ℕ) → T (whole_all b web web) → T (distinct web) → T (fit f b web) → f ≤ 4 → length web ≤ 4096 →
    (n : ℕ) (names marks : List ℕ) (rounds : ℕ) (o : Option ℕ) → n ≡ members f → names ≡ names_of n b web (noughts 6400) →
    marks ≡ marks_of n b web (noughts 6400) → rounds ≡ last_round b web / 2 + 1 → o ≡ last_voted_at f n b names marks rounds →
    written_by n b names marks (noughts 4096) o ≡ wrote (order f b web)
written_by_lem f b web whole once fits few short n names marks rounds o en ea em er eo =
    let same : written_by n b names marks (noughts 4096) o ≡ steps_on f b web = cc in
    same ∙ steps_write_order f b web whole once fits few short
