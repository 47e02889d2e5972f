-- One more block at the end of a book's blocks: what always holds of a book holds again.
-- Assumes that the new block is none of the others, isn't too large, and has its parents among them.
use Rattle.std.proofs.Common.{◌≡◌, ℕ, ◌<◌, T, List, [], ◌∷◌, ◌++◌, length, refl, sym, ◌∙◌, arith, below_more}
use Rattle.std.proofs.lemmas.List.{get_or_append_left, get_or_push, length_push}
use Rattle.model.specs.Names.{all_below}
use Rattle.model.specs.Blocks.{Block, within_limits}
use Rattle.book.specs.Content.{empty_block, book_of, OneName, Limited, ParentsBefore}
use Rattle.book.specs.Meeting.{Absent}
use Rattle.book.proofs.Filling.{each_more}

names_kept : (ks : List Block) (k : Block) (i : ℕ) → i < length ks → book_of (ks ++ k ∷ []) i ≡ book_of ks i
names_kept ks k i h = get_or_append_left ks (k ∷ []) empty_block i h

pub apart_more : (ks : List Block) (k : Block) → OneName ks → Absent ks k → OneName (ks ++ k ∷ [])
apart_more ks k apart absent i j h =
    let e = length_push ks k in
    let lt : i < length ks = omega arith in
    below_more (λ n. (i < n) → book_of (ks ++ k ∷ []) i ≡ book_of (ks ++ k ∷ []) n → ⊥) (length ks)
    (λ n ln li same. apart i n (li, ln, sym (names_kept ks k i (omega arith)) ∙ same ∙ names_kept ks k n ln))
    (λ li same. absent i li (sym (names_kept ks k i li) ∙ same ∙ get_or_push ks k empty_block (length ks) refl)) j (omega arith) h.0 h.2

pub limited_more : (ks : List Block) (k : Block) → Limited ks → T (within_limits k) → Limited (ks ++ k ∷ [])
limited_more ks k limited new = each_more (λ i b. T (within_limits b)) ks k empty_block limited new

pub earlier_more : (ks : List Block) (k : Block) → ParentsBefore ks → T (all_below (length ks) k.parents) → ParentsBefore (ks ++ k ∷ [])
earlier_more ks k earlier new = each_more (λ i b. T (all_below i b.parents)) ks k empty_block earlier new
