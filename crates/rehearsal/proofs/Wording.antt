-- Looking words up, one by one. Assumes nothing.
use Rattle.std.proofs.Common.{◌≡◌, vec_items, ℕ, ◌+◌, ◌<◌, min, Bool, true, false, cond, List, [], ◌∷◌, ◌++◌, map, length, get_or, take, Some, None, Option, sym, refl, ap, ◌∙◌, append_assoc, append-nil, arith}
use Rattle.std.proofs.lemmas.List.{map_more, length-map, length-take}
use Rattle.std.specs.Prelude.{◌==◌, unwrap_or}
use Rattle.std.specs.List.{find}
use Rattle.std.specs.Option.{option_map}
use Rattle.std.specs.Str.{bytes_eq}
use Rattle.lines.specs.Words.{space, none, joined}
use Rattle.rehearsal.specs.declared.glossary.Word.{Word}
use Rattle.rehearsal.specs.Words.{Naming, name_in, names_in, in_front, then_names, text_for}
use Rattle.rehearsal.specs.Glossaries.{naming_of}

-- the word that is found is the one whose name, or text, is asked for
pub find_name : (text : List ℕ) (words : List Word) → option_map (λ (w : Word). w.name) (find (λ (w : Word). bytes_eq text (vec_items w.text)) words) ≡ name_in text (map naming_of words)
unfolding name_in
find_name text [] = refl
find_name text (w ∷ words) = go (bytes_eq text (vec_items w.text)) (find_name text words)
  where
    go : (t : Bool) → option_map (λ (w : Word). w.name) (find (λ (w : Word). bytes_eq text (vec_items w.text)) words) ≡ name_in text (map naming_of words) →
        option_map (λ (w : Word). w.name) (cond t (Some w) (find (λ (w : Word). bytes_eq text (vec_items w.text)) words)) ≡ cond t (Some w.name) (name_in text (map naming_of words))
    go true rest = refl
    go false rest = rest

pub find_text : (name : ℕ) (words : List Word) → unwrap_or (option_map (λ (w : Word). vec_items w.text) (find (λ (w : Word). w.name == name) words)) [] ≡ text_for name (map naming_of words)
unfolding text_for
find_text name [] = refl
find_text name (w ∷ words) = go (w.name == name) (find_text name words)
  where
    go : (t : Bool) → unwrap_or (option_map (λ (w : Word). vec_items w.text) (find (λ (w : Word). w.name == name) words)) [] ≡ text_for name (map naming_of words) →
        unwrap_or (option_map (λ (w : Word). vec_items w.text) (cond t (Some w) (find (λ (w : Word). w.name == name) words))) [] ≡ cond t (vec_items w.text) (text_for name (map naming_of words))
    go true rest = refl
    go false rest = rest

-- ---- names for many words
unfoldable pub behind : List ℕ → Option (List ℕ) → Option (List ℕ)
behind xs None = None
behind xs (Some ys) = Some (xs ++ ys)

behind_front : (xs : List ℕ) (x : ℕ) (rest : Option (List ℕ)) → behind xs (in_front x rest) ≡ behind (xs ++ (x ∷ [])) rest
unfolding behind
behind_front xs x None = refl
behind_front xs x (Some ys) = ap Some (sym (append_assoc xs (x ∷ []) ys))

module _ (ns : List Naming) (texts rest more : List (List ℕ)) (text done : List ℕ) (is : rest ≡ text ∷ more)
    (inv : names_in texts ns ≡ behind done (names_in rest ns)) where
  pub names_more : (x : ℕ) (all : List ℕ) → name_in text ns ≡ Some x → all ≡ done ++ (x ∷ []) → names_in texts ns ≡ behind all (names_in more ns)
  unfolding names_in
  names_more x all e grown =
      inv ∙ ap (λ l. behind done (names_in l ns)) is ∙ ap (λ o. behind done (then_names o (names_in more ns))) e
      ∙ behind_front done x (names_in more ns) ∙ ap (λ l. behind l (names_in more ns)) (sym grown)

  pub names_fail : name_in text ns ≡ None → names_in texts ns ≡ None
  unfolding names_in behind
  names_fail e = inv ∙ ap (λ l. behind done (names_in l ns)) is ∙ ap (λ o. behind done (then_names o (names_in more ns))) e

pub names_start : (ns : List Naming) (texts : List (List ℕ)) (done : List ℕ) → done ≡ [] → names_in texts ns ≡ behind done (names_in texts ns)
unfolding behind
names_start ns texts done e = go (names_in texts ns) ∙ ap (λ l. behind l (names_in texts ns)) (sym e)
  where
    go : (o : Option (List ℕ)) → o ≡ behind [] o
    go None = refl
    go (Some ys) = refl

pub names_end : (ns : List Naming) (texts rest : List (List ℕ)) (done : List ℕ) → rest ≡ [] → names_in texts ns ≡ behind done (names_in rest ns) → names_in texts ns ≡ Some done
unfolding names_in behind
names_end ns texts left_over done e inv = inv ∙ ap (λ l. behind done (names_in l ns)) e ∙ ap Some (append-nil done)

-- ---- words on one line

join_push : (ws : List (List ℕ)) (w : List ℕ) → joined (ws ++ (w ∷ [])) ≡ cond (none ws) w (joined ws ++ (space ∷ w))
unfolding joined
join_push [] w = refl
join_push (v ∷ []) w = refl
join_push (v ∷ u ∷ ws) w =
    ap (λ l. v ++ (space ∷ l)) (join_push (u ∷ ws) w) ∙ sym (append_assoc v (space ∷ joined (u ∷ ws)) (space ∷ w))

none_empty : (ws : List (List ℕ)) → 0 < length ws → none ws ≡ false
none_empty [] h = absurd (omega arith)
none_empty (w ∷ ws) h = refl

-- one more name's text behind those of the first i names, after a space if there are some
module _ (text : ℕ → List ℕ) (names : List ℕ) (i : ℕ) (h : i < length names) (old mid new : List ℕ) (before : old ≡ joined (map text (take i names)))
    (more : new ≡ mid ++ text (get_or names i 0)) where
  texts : map text (take (i + 1) names) ≡ map text (take i names) ++ (text (get_or names i 0) ∷ [])
  texts = map_more text names i 0 h

  pub line_first : i ≡ 0 → mid ≡ old → new ≡ joined (map text (take (i + 1) names))
  unfolding joined
  line_first z same =
      let none_yet : map text (take i names) ≡ [] = ap (λ n. map text (take n names)) z in
      let empty : mid ≡ [] = same ∙ before ∙ ap joined none_yet in
      more ∙ ap (λ l. l ++ text (get_or names i 0)) empty
      ∙ sym (ap joined (texts ∙ ap (λ l. l ++ (text (get_or names i 0) ∷ [])) none_yet))

  pub line_next : 0 < i → mid ≡ old ++ (space ∷ []) → new ≡ joined (map text (take (i + 1) names))
  line_next some spaced =
      let w = text (get_or names i 0) in
      let ws = map text (take i names) in
      let size : length ws ≡ min i (length names) = length-map (take i names) text ∙ length-take i names in
      let there = none_empty ws (omega arith) in
      more ∙ ap (λ l. l ++ w) (spaced ∙ ap (λ l. l ++ (space ∷ [])) before) ∙ append_assoc (joined ws) (space ∷ []) w
      ∙ sym (ap joined texts ∙ join_push ws w ∙ ap (λ (t : Bool). cond t w (joined ws ++ (space ∷ w))) there)
