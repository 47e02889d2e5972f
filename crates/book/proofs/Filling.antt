-- One more block behind those that the tables hold: what was there stays, and the new one stands at the end. Assumes nothing.
use Rattle.std.proofs.Common.{◌≡◌, ℕ, ◌+◌, ◌<◌, ◌≤◌, List, [], ◌∷◌, ◌++◌, length, get_or, drop, take, sym, refl, ap, ◌∙◌, subst, arith, below_more, length-append}
use Rattle.std.proofs.Math.Seq.{drop-append_seam, take-length}
use Rattle.std.proofs.lemmas.List.{length-drop, drop-append-le, take-append-le, ext_get_or, map_push, get_or_append_left, get_or_push, length_push}
use Rattle.model.specs.Blocks.{Block, max_parents, max_load}
use Rattle.book.specs.declared.entry.Entry.{Entry}
use Rattle.book.specs.Content.{empty_block, max_blocks, stretch, block_at, blocks_of, empty_entry, Placed, AllPlaced}
use Rattle.book.specs.Meeting.{block_of}
use Rattle.book.specs.Memory.{Lent, parents_of_all, bytes_of_all, HasRoom, Within, Tabled}
use Rattle.book.proofs.Blocks.{how_many, block_there}

parents_of_more : (ks : List Block) (k : Block) → parents_of_all (ks ++ k ∷ []) ≡ parents_of_all ks + length k.parents
unfolding parents_of_all
parents_of_more [] k = omega arith
parents_of_more (x ∷ ks) k = let ih = parents_of_more ks k in omega arith

bytes_of_more : (ks : List Block) (k : Block) → bytes_of_all (ks ++ k ∷ []) ≡ bytes_of_all ks + length k.load
unfolding bytes_of_all
bytes_of_more [] k = omega arith
bytes_of_more (x ∷ ks) k = let ih = bytes_of_more ks k in omega arith

-- the blocks with one more, for which there is room, fit into the lent memory
pub within_more :
    (l : Lent) (ks : List Block) (k : Block) → Within l ks → length k.parents ≤ max_parents → length k.load ≤ max_load →
    HasRoom l ks (length k.parents) (length k.load) → Within l (ks ++ k ∷ [])
within_more l ks k old few short room =
    let longer = length_push ks k in
    let parents = parents_of_more ks k in
    let bytes = bytes_of_more ks k in
    let were_few = old.few_parents in
    let were_short = old.short_loads in
    record {
      few = omega arith;
      blocks_fit = omega arith;
      parents_fit = omega arith;
      bytes_fit = omega arith;
      few_parents = omega arith;
      short_loads = omega arith;
    }

-- a stretch that ends within a table is the same in a longer one, and what was added to a table is a stretch of it
stretch_kept : (xs more : List ℕ) (from n : ℕ) → from + n ≤ length xs → stretch (xs ++ more) from n ≡ stretch xs from n
stretch_kept xs more from n h =
    ap (take n) (drop-append-le from xs more (omega arith)) ∙ take-append-le n (drop from xs) more (let e = length-drop from xs in omega arith)

stretch_added : (xs more : List ℕ) → stretch (xs ++ more) (length xs) (length more) ≡ more
stretch_added xs more = ap (take (length more)) (drop-append_seam xs more) ∙ take-length more

blocks_kept :
    (es : List Entry) (ps ls parents load : List ℕ) → AllPlaced (length ps) (length ls) es →
    blocks_of es (ps ++ parents) (ls ++ load) ≡ blocks_of es ps ls
blocks_kept es ps ls parents load placed =
    ext_get_or empty_block (blocks_of es (ps ++ parents) (ls ++ load)) (blocks_of es ps ls)
    (how_many es (ps ++ parents) (ls ++ load) ∙ sym (how_many es ps ls)) (λ i h.
    let lt : i < length es = (let e = how_many es (ps ++ parents) (ls ++ load) in omega arith) in
    let entry = get_or es i empty_entry in
    let here = placed i lt in
    block_there es (ps ++ parents) (ls ++ load) i lt ∙
    ap (λ (x : List ℕ). block_of entry.author entry.round x (stretch (ls ++ load) entry.load_from entry.load))
    (stretch_kept ps parents entry.parents_from entry.parents here.0) ∙
    ap (λ (x : List ℕ). block_of entry.author entry.round (stretch ps entry.parents_from entry.parents) x)
    (stretch_kept ls load entry.load_from entry.load here.1) ∙
    sym (block_there es ps ls i lt))

-- the entry of a block whose parents and load are added to the tables
abbrev pub entry_for : Block → List ℕ → List ℕ → Entry
entry_for k ps ls =
    record {
      author = k.author;
      round = k.round;
      parents_from = length ps;
      parents = length k.parents;
      load_from = length ls;
      load = length k.load;
    }

pub blocks_more :
    (es : List Entry) (ps ls : List ℕ) (k : Block) → AllPlaced (length ps) (length ls) es →
    blocks_of (es ++ entry_for k ps ls ∷ []) (ps ++ k.parents) (ls ++ k.load) ≡ blocks_of es ps ls ++ k ∷ []
blocks_more es ps ls k placed =
    map_push (block_at (ps ++ k.parents) (ls ++ k.load)) es (entry_for k ps ls) ∙
    ap (λ (x : List Block). x ++ (block_at (ps ++ k.parents) (ls ++ k.load) (entry_for k ps ls) ∷ [])) (blocks_kept es ps ls k.parents k.load placed) ∙
    ap (λ (x : List ℕ). blocks_of es ps ls ++ (block_of k.author k.round x (stretch (ls ++ k.load) (length ls) (length k.load)) ∷ []))
    (stretch_added ps k.parents) ∙
    ap (λ (x : List ℕ). blocks_of es ps ls ++ (block_of k.author k.round k.parents x ∷ [])) (stretch_added ls k.load)

-- what holds of each element of a list, by its place, and of one more, holds of each with that one at the end
pub each_more :
    {X : Type 0} (P : ℕ → X → Type 0) (xs : List X) (y d : X) → ((i : ℕ) → i < length xs → P i (get_or xs i d)) → P (length xs) y →
    (i : ℕ) → i < length (xs ++ y ∷ []) → P i (get_or (xs ++ y ∷ []) i d)
each_more {X} P xs y d old new i h =
    let e = length_push xs y in
    below_more (λ k. P k (get_or (xs ++ y ∷ []) k d)) (length xs)
    (λ k lt. subst (P k) (sym (get_or_append_left xs (y ∷ []) d k lt)) (old k lt))
    (subst (P (length xs)) (sym (get_or_push xs y d (length xs) refl)) new) i (omega arith)

pub tabled_more :
    (es : List Entry) (ps ls : List ℕ) (k : Block) → Tabled es ps ls → length (blocks_of es ps ls) < max_blocks →
    length k.parents ≤ max_parents → length k.load ≤ max_load → Tabled (es ++ entry_for k ps ls ∷ []) (ps ++ k.parents) (ls ++ k.load)
tabled_more es ps ls k old room few short =
    let n = how_many es ps ls in
    let e = length_push es (entry_for k ps ls) in
    let p = length-append ps k.parents in
    let l = length-append ls k.load in
    let more = blocks_more es ps ls k old.placed in
    let all_parents = ap parents_of_all more ∙ parents_of_more (blocks_of es ps ls) k in
    let all_bytes = ap bytes_of_all more ∙ bytes_of_more (blocks_of es ps ls) k in
    let was_parents = old.parents_filled in
    let was_loads = old.loads_filled in
    let were_few = old.few_parents in
    let were_short = old.short_loads in
    record {
      few = omega arith;
      parents_filled = omega arith;
      few_parents = omega arith;
      loads_filled = omega arith;
      short_loads = omega arith;
      placed =
          each_more (λ i x. Placed (length (ps ++ k.parents)) (length (ls ++ k.load)) x) es (entry_for k ps ls) empty_entry
          (λ i h. let here = old.placed i h in (omega arith, omega arith)) (omega arith, omega arith);
    }
