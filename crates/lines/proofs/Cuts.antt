-- A line's words: its first space, and what stands before and after it. Assumes nothing.
use Rattle.std.proofs.Common.{◌≡◌, ℕ, zero, suc, ◌+◌, ◌-◌, ◌<◌, ◌≤◌, Bool, true, false, cond, not, ◌||◌, T, eqb, List, [], ◌∷◌, ◌++◌, length, get_or, take, drop, is_some, Some, None, Option, sym, refl, ap, ◌∙◌, arith, Bor}
use Rattle.std.proofs.lemmas.List.{take_rest}
use Rattle.std.proofs.lemmas.Bool.{eq-eqb, ne_eqb, cond-true, cond-false, eqb-true, or_from, or_parts, true≢false}
use Rattle.lines.proofs.Both.{and_left, and_right}
use Rattle.lines.specs.Left.{left_of}
use Rattle.lines.specs.Words.{space, has, place_of, in_front, words_of, none, joined, spaceless, WordsJoin}

-- the place of the first byte like this is i, where one stands and none before it
pub place_here : (c : ℕ) (bs : List ℕ) (i : ℕ) → i < length bs → get_or bs i 0 ≡ c → ((k : ℕ) → k < i → get_or bs k 0 ≡ c → ⊥) → i ≡ place_of c bs
unfolding place_of
place_here c [] i h e before = absurd (omega arith)
place_here c (b ∷ bs) zero h e before = sym (cond-true (eqb b c) 0 (suc (place_of c bs)) (eq-eqb b c e))
place_here c (b ∷ bs) (suc i) h e before =
    ap suc (place_here c bs i (omega arith) e (λ k l. before (suc k) (omega arith)))
    ∙ sym (cond-false (eqb b c) 0 (suc (place_of c bs)) (ne_eqb b c (before 0 (omega arith))))

-- the length, where none stands
pub place_end : (c : ℕ) (bs : List ℕ) → ((k : ℕ) → k < length bs → get_or bs k 0 ≡ c → ⊥) → length bs ≡ place_of c bs
unfolding place_of
place_end c [] none = refl
place_end c (b ∷ bs) none =
    ap suc (place_end c bs (λ k l. none (suc k) (omega arith)))
    ∙ sym (cond-false (eqb b c) 0 (suc (place_of c bs)) (ne_eqb b c (none 0 (omega arith))))

-- it is a place, or the length
pub place_within : (c : ℕ) (bs : List ℕ) → place_of c bs ≤ length bs
unfolding place_of
place_within c [] = omega arith
place_within c (b ∷ bs) = let rest = place_within c bs in go (eqb b c) (place_of c bs) rest
  where
    go : (t : Bool) (p : ℕ) → p ≤ length bs → cond t 0 (suc p) ≤ suc (length bs)
    go true p h = omega arith
    go false p h = omega arith

-- a line whose first space stands at place i: the word before it, and the words behind it
first_word : (bs : List ℕ) (i : ℕ) → i < length bs → get_or bs i 0 ≡ space → ((k : ℕ) → k < i → get_or bs k 0 ≡ space → ⊥) →
    words_of bs ≡ take i bs ∷ words_of (drop (suc i) bs)
unfolding words_of
first_word [] i h e before = absurd (omega arith)
first_word (b ∷ bs) zero h e before = cond-true (eqb b space) ([] ∷ words_of bs) (in_front b (words_of bs)) (eq-eqb b space e)
first_word (b ∷ bs) (suc i) h e before =
    cond-false (eqb b space) ([] ∷ words_of bs) (in_front b (words_of bs)) (ne_eqb b space (before 0 (omega arith)))
    ∙ ap (in_front b) (first_word bs i (omega arith) e (λ k l. before (suc k) (omega arith)))

-- as the code cuts it
pub word_here : (bs : List ℕ) (i : ℕ) → i < length bs → get_or bs i 0 ≡ space → ((k : ℕ) → k < i → get_or bs k 0 ≡ space → ⊥) →
    words_of bs ≡ take i bs ∷ words_of (take (length bs - (i + 1)) (drop (i + 1) bs))
word_here bs i h e before =
    let next : suc i ≡ i + 1 = omega arith in
    first_word bs i h e before ∙ ap (λ l. take i bs ∷ words_of l) (ap (λ n. drop n bs) next ∙ sym (take_rest bs (i + 1)))

-- a line without a space is one word
pub last_word : (bs : List ℕ) → ((k : ℕ) → k < length bs → get_or bs k 0 ≡ space → ⊥) → words_of bs ≡ bs ∷ []
unfolding words_of
last_word [] none = refl
last_word (b ∷ bs) none =
    cond-false (eqb b space) ([] ∷ words_of bs) (in_front b (words_of bs)) (ne_eqb b space (none 0 (omega arith)))
    ∙ ap (in_front b) (last_word bs (λ k l. none (suc k) (omega arith)))

-- a line's words, joined, are the line
some_word : (bs : List ℕ) → none (words_of bs) ≡ false
unfolding words_of
some_word [] = refl
some_word (b ∷ bs) = go (eqb b space) (words_of bs)
  where
    go : (t : Bool) (ws : List (List ℕ)) → none (cond t ([] ∷ ws) (in_front b ws)) ≡ false
    go true ws = refl
    go false [] = refl
    go false (w ∷ ws) = refl

join_front : (b : ℕ) (ws : List (List ℕ)) → joined (in_front b ws) ≡ b ∷ joined ws
unfolding joined
join_front b [] = refl
join_front b (w ∷ ws) = go (none ws)
  where
    go : (t : Bool) → cond t (b ∷ w) ((b ∷ w) ++ (space ∷ joined ws)) ≡ b ∷ cond t w (w ++ (space ∷ joined ws))
    go true = refl
    go false = refl

joined_so : (b : ℕ) (bs : List ℕ) (t : Bool) → eqb b space ≡ t → joined (words_of bs) ≡ bs →
    joined (cond t ([] ∷ words_of bs) (in_front b (words_of bs))) ≡ b ∷ bs
unfolding joined
joined_so b bs true e rest =
    cond-false (none (words_of bs)) [] (space ∷ joined (words_of bs)) (some_word bs)
    ∙ ap (λ l. space ∷ l) rest ∙ ap (λ x. x ∷ bs) (sym (eqb-true b space e))
joined_so b bs false e rest = join_front b (words_of bs) ∙ ap (λ l. b ∷ l) rest

join_words : (bs : List ℕ) → joined (words_of bs) ≡ bs
unfolding words_of joined
join_words [] = refl
join_words (b ∷ bs) = joined_so b bs (eqb b space) refl (join_words bs)

-- no word of a line has a space in it
clean_so : (b : ℕ) (t : Bool) → eqb b space ≡ t → (ws : List (List ℕ)) → T (spaceless ws) → T (spaceless (cond t ([] ∷ ws) (in_front b ws)))
unfolding spaceless has
clean_so b true e ws p = p
clean_so b false e [] p = rw e tt
clean_so b false e (w ∷ ws) p = rw e p

clean_words : (bs : List ℕ) → T (spaceless (words_of bs))
unfolding words_of spaceless has
clean_words [] = tt
clean_words (b ∷ bs) = clean_so b (eqb b space) refl (words_of bs) (clean_words bs)

-- words without spaces are the words of the line that they join to
one_word : (w : List ℕ) → T (not (has space w)) → words_of w ≡ w ∷ []
unfolding words_of has
one_word [] p = refl
one_word (b ∷ bs) p = go (eqb b space) (one_word bs) p
  where
    go : (t : Bool) → (T (not (has space bs)) → words_of bs ≡ bs ∷ []) → T (not (t || has space bs)) →
        cond t ([] ∷ words_of bs) (in_front b (words_of bs)) ≡ (b ∷ bs) ∷ []
    go true rest p = absurd p
    go false rest p = ap (in_front b) (rest p)

pub word_before : (w rest : List ℕ) → T (not (has space w)) → words_of (w ++ (space ∷ rest)) ≡ w ∷ words_of rest
unfolding words_of has
word_before [] rest p = refl
word_before (b ∷ bs) rest p = go (eqb b space) (word_before bs rest) p
  where
    go : (t : Bool) → (T (not (has space bs)) → words_of (bs ++ (space ∷ rest)) ≡ bs ∷ words_of rest) → T (not (t || has space bs)) →
        cond t ([] ∷ words_of (bs ++ (space ∷ rest))) (in_front b (words_of (bs ++ (space ∷ rest)))) ≡ (b ∷ bs) ∷ words_of rest
    go true h p = absurd p
    go false h p = ap (in_front b) (h p)

words_of-joined : (w : List ℕ) (ws : List (List ℕ)) → T (spaceless (w ∷ ws)) → words_of (joined (w ∷ ws)) ≡ w ∷ ws
unfolding joined spaceless
words_of-joined w [] p = one_word w (and_left (not (has space w)) true p)
words_of-joined w (v ∷ ws) p =
    word_before w (joined (v ∷ ws)) (and_left (not (has space w)) (spaceless (v ∷ ws)) p)
    ∙ ap (λ l. w ∷ l) (words_of-joined v ws (and_right (not (has space w)) (spaceless (v ∷ ws)) p))

pub words_join : WordsJoin
words_join = record { of_line = join_words; clean = clean_words; of_words = words_of-joined }

pub done_if_none : (o : Option (Bor (List ℕ))) (b : Bool) → is_some o ≡ not b → b ≡ none (left_of o)
done_if_none None true e = refl
done_if_none None false e = e
done_if_none (Some bytes) true e = absurd (true≢false e)
done_if_none (Some bytes) false e = sym (some_word bytes.now)

-- one more byte that isn't the one that is kept out
pub has_push : (c : ℕ) (bs : List ℕ) (b : ℕ) → has c bs ≡ false → (b ≡ c → ⊥) → has c (bs ++ (b ∷ [])) ≡ false
unfolding has
has_push c [] b e ne = or_from (eqb b c) false (ne_eqb b c ne) refl
has_push c (x ∷ bs) b e ne =
    let parts = or_parts (eqb x c) (has c bs) e in or_from (eqb x c) (has c (bs ++ (b ∷ []))) parts.0 (has_push c bs b parts.1 ne)
