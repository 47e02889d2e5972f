-- What it says of a block that a look at each name found it or not. Assumes nothing.
use Rattle.std.proofs.Common.{◌≡◌, ◌≢◌, ℕ, ◌<◌, ◌≤◌, Option, Some, None, List, length, sym, ◌∙◌, subst, zero-add, arith}
use Rattle.std.specs.List.{range_with_len, AllWithin, HoldsAt}
use Rattle.std.specs.Option.{MatchOption}
use Rattle.std.proofs.lemmas.List.FromFn.{length-range_with_len, get_or-range_with_len}
use Rattle.model.specs.Blocks.{Block}
use Rattle.book.specs.Content.{book_of}
use Rattle.book.specs.Meeting.{NoneBelow, Found}

at_place : (n i x : ℕ) → i < n → HoldsAt (λ y. y ≡ x) (range_with_len 0 n) i → i ≡ x
at_place n i x h here = sym (zero-add i) ∙ sym (get_or-range_with_len 0 n i 0 h) ∙ here 0

others_below :
    (blocks : List Block) (k : Block) (n m : ℕ) → m ≤ n → AllWithin (λ i. book_of blocks i ≢ k) (range_with_len 0 n) 0 m → NoneBelow m blocks k
others_below blocks k n m le others i h =
    subst (λ (j : ℕ). book_of blocks j ≢ k) (get_or-range_with_len 0 n i 0 (omega arith) ∙ zero-add i) (others i 0 (omega arith) h)

-- the last premise is what a `find` over the names answers
pub found :
    (blocks : List Block) (k : Block) (n : ℕ) (r : Option ℕ) → n ≡ length blocks →
    MatchOption r (AllWithin (λ i. book_of blocks i ≢ k) (range_with_len 0 n) 0 (length (range_with_len 0 n)))
    (λ x. (book_of blocks x ≡ k) × (i : ℕ) × (i < length (range_with_len 0 n)) × HoldsAt (λ y. y ≡ x) (range_with_len 0 n) i
    × AllWithin (λ i. book_of blocks i ≢ k) (range_with_len 0 n) 0 i) →
    Found blocks k r
found blocks k n None e others =
    let all = length-range_with_len 0 n in
    subst (λ (m : ℕ). NoneBelow m blocks k) (all ∙ e) (others_below blocks k n _ (omega arith) others)
found blocks k n (Some x) e (same, i, lt, here, others) =
    let all = length-range_with_len 0 n in
    let place = at_place n i x (omega arith) here in
    record {
      there = omega arith;
      stands = same;
      first = subst (λ (m : ℕ). NoneBelow m blocks k) place (others_below blocks k n i (omega arith) others);
    }
