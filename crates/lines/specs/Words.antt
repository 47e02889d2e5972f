-- The words of a line, separated by one space. Assumes nothing.
use Rattle.std.specs.Prelude.{◌≡◌, ℕ, suc, Bool, true, false, cond, not, ◌&&◌, ◌||◌, T, List, [], ◌∷◌, ◌++◌, length, ◌==◌}

abbrev pub space : ℕ
space = 32

-- the byte stands among these
unfoldable pub has : ℕ → List ℕ → Bool
has sought [] = false
has sought (b ∷ bs) = b == sought || has sought bs

-- the place of the first byte like this, or the length where there is none
unfoldable pub place_of : ℕ → List ℕ → ℕ
place_of sought [] = 0
place_of sought (b ∷ bs) = cond (b == sought) 0 (suc (place_of sought bs))

-- a byte in front of the first word
abbrev pub in_front : ℕ → List (List ℕ) → List (List ℕ)
in_front b [] = (b ∷ []) ∷ []
in_front b (w ∷ ws) = (b ∷ w) ∷ ws

-- The words of a line: it is cut at every space. There is always one; where two spaces follow one another, or one stands at an end, a word is empty.
unfoldable pub words_of : List ℕ → List (List ℕ)
words_of [] = [] ∷ []
words_of (b ∷ bs) = cond (b == space) ([] ∷ words_of bs) (in_front b (words_of bs))

-- there is no word
abbrev pub none : List (List ℕ) → Bool
none [] = true
none (w ∷ ws) = false

-- words on one line, one space between any two
unfoldable pub joined : List (List ℕ) → List ℕ
joined [] = []
joined (w ∷ ws) = cond (none ws) w (w ++ (space ∷ joined ws))

-- no word has a space in it
unfoldable pub spaceless : List (List ℕ) → Bool
spaceless [] = true
spaceless (w ∷ ws) = not (has space w) && spaceless ws

-- A line's words, joined, are the line again, and none has a space in it; and words without spaces are the words of the line that they join to.
pub record WordsJoin : Type 0 where
  pub of_line : (line : List ℕ) → joined (words_of line) ≡ line
  pub clean : (line : List ℕ) → T (spaceless (words_of line))
  pub of_words : (w : List ℕ) (ws : List (List ℕ)) → T (spaceless (w ∷ ws)) → words_of (joined (w ∷ ws)) ≡ w ∷ ws

-- a word: some bytes, and no space among them
abbrev pub is_word : List ℕ → Bool
is_word bs = not (length bs == 0) && not (has space bs)
