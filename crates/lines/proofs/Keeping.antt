-- That a buffer keeps a line's first bytes, as bytes come. Assumes nothing.
use Rattle.std.proofs.Common.{◌≡◌, ℕ, ◌+◌, ◌<◌, ◌≤◌, min, List, [], ◌∷◌, ◌++◌, length, take, Ok, Err, Result, MatchResult, sym, ap, ◌∙◌, arith}
use Rattle.std.proofs.lemmas.List.{length-take, length_push, take_all, take-append-le}
use Rattle.lines.specs.Buffers.{longest}

-- the two facts of `Keeps`, over lists
abbrev Held : {A E : Type 0} → Result A E → ℕ → Type 0
Held whole n = MatchResult whole (λ _. n ≤ longest) (λ _. longest < n)

still_held : {A E : Type 0} (whole : Result A E) (n m : ℕ) → n < longest → m ≡ n + 1 → Held whole n → Held whole m
still_held (Ok _) n m h e p = omega arith
still_held (Err _) n m h e p = absurd (omega arith)

kept_length : (kept line : List ℕ) → kept ≡ take longest line → length kept ≡ min longest (length line)
kept_length kept line front = ap length front ∙ length-take longest line

-- one more byte, for which there is room
pub one_more : {A E : Type 0} (whole : Result A E) (kept line : List ℕ) (b : ℕ) → kept ≡ take longest line → Held whole (length line) → length kept < longest →
    (kept ++ (b ∷ []) ≡ take longest (line ++ (b ∷ []))) × Held whole (length (line ++ (b ∷ [])))
one_more whole kept line b front held room =
    let same = kept_length kept line front in
    let short : length line < longest = omega arith in
    let longer = length_push line b in
    let fits : length (line ++ (b ∷ [])) ≤ longest = omega arith in (
      ap (λ l. l ++ (b ∷ [])) (front ∙ take_all longest line (omega arith)) ∙ sym (take_all longest (line ++ (b ∷ [])) fits),
      still_held whole (length line) (length (line ++ (b ∷ []))) short (omega arith) held,
    )

-- one more byte, for which there is none: what is kept is the same, and the line is too long
pub one_lost : (line : List ℕ) (b : ℕ) → longest ≤ length (take longest line) →
    (take longest (line ++ (b ∷ [])) ≡ take longest line) × (longest < length (line ++ (b ∷ [])))
one_lost line b full =
    let same = length-take longest line in
    let long : longest ≤ length line = omega arith in
    let longer = length_push line b in
    (take-append-le longest line (b ∷ []) long, omega arith)
