-- That a committee holds the world of what was said: at the start, when a member is said to be bad, and when the book grows. Assumes nothing.
use Rattle.std.proofs.Common.{◌≡◌, ℕ, ◌+◌, ◌<◌, ◌≤◌, Bool, true, false, cond, ◌&&◌, ◌||◌, T, ltb, leb, List, [], ◌∷◌, ◌++◌, map, length, get_or, replicate, is_some, Some, None, vec_items, Option, sym, refl, ap, ◌∙◌, subst, ap₂, subst₂, ⊎_elim, zero-le, arith, le→leb, ltb→lt, lt→ltb}
use Rattle.std.proofs.lemmas.List.{get_or_append_left, get_or_past, get_or-replicate, length-replicate, length_push, map_push}
use Rattle.std.specs.Prelude.{OnOk, OnErr, Ok, Err, Result}
use Rattle.std.specs.declared.alloc.AllocError.{AllocError}
use Rattle.std.proofs.lemmas.Bool.{lt-ltb, cases_lt}
use Rattle.book.specs.Books.{blocks}
use Rattle.book.specs.Content.{book_of, ParentsBefore, empty_block}
use Rattle.book.specs.Memory.{Lent}
use Rattle.book.specs.Meeting.{Met}
use Rattle.members.specs.Sets.{Holds}
use Rattle.model.specs.Names.{is_in, different, all_below}
use Rattle.model.specs.Thresholds.{members}
use Rattle.model.specs.Blocks.{Block}
use Rattle.model.specs.Member.{Member}
use Rattle.model.specs.Seat.{seat_limit}
use Rattle.model.proofs.Worlds.{new_at}
use Rattle.model.specs.World.{World, Event, member_at, world, new_members, signers}
use Rattle.model.proofs.Tools.{and_left, and_right, and_both, is_true}
use Rattle.model.proofs.Lists.{different_in, different_new, below_in, in_below, in_append, in_single, in_here, in_there}
use Rattle.std.specs.Str.{bytes_eq}
use Rattle.rehearsal.specs.declared.notes.Note.{Note}
use Rattle.rehearsal.specs.declared.notes.Notes.{Notes}
use Rattle.rehearsal.specs.declared.seats.Seats.{Seats}
use Rattle.rehearsal.specs.Books.{name_of, about_below, SameBelow}
use Rattle.rehearsal.specs.Words.{Naming, name_in}
use Rattle.rehearsal.specs.Seated.{Sit}
use Rattle.rehearsal.specs.Noted.{no_note, Noted}
use Rattle.rehearsal.specs.Scenes.{Scene, is_bad, book_in, world_in, opening, may_be_bad, with_bad, with_blocks, with_word}
use Rattle.rehearsal.specs.Held.{Parts, HoldWorld, Played}
use Rattle.rehearsal.proofs.Growing.{world_same}

-- ---- the start
none_noted : (n x : ℕ) → get_or (replicate n no_note) x no_note ≡ no_note
none_noted n x =
    ⊎_elim (λ h. get_or-replicate n x no_note no_note h)
    (λ h. get_or_past (replicate n no_note) x no_note (let size = length-replicate n no_note in omega arith)) (cases_lt x n)

noted_none : (n : ℕ) (notes : List Note) → Holds 0 [] → notes ≡ replicate n no_note → Noted [] [] notes
unfolding signers is_in
noted_none n notes none e = record {
  signed = λ x. subst (λ (k : Note). Holds k.signers.bits []) (sym (ap (λ (l : List Note). get_or l x no_note) e ∙ none_noted n x)) none;
  made = λ x. ap (λ (l : List Note). (get_or l x no_note).made) e ∙ ap (λ (k : Note). k.made) (none_noted n x);
}

about_nothing : (k : ℕ) → T (about_below k [])
unfolding about_below
about_nothing k = tt

known_nothing : (k : ℕ) → T (all_below k [])
unfolding all_below
known_nothing k = tt

pub plays_opening : (f : ℕ) (c : Parts) → c.faults.f ≡ f → c.bad.bits ≡ 0 → Holds c.bad.bits [] → (n : ℕ) → n ≡ members f →
    Sit (new_members n) (vec_items c.seats.seats) → vec_items c.notes.notes ≡ replicate (length (blocks c.book)) no_note → c.words ≡ [] →
    HoldWorld (with_blocks (blocks c.book) (opening f)) c
unfolding world about_below different all_below
plays_opening f c ef eb holds n en sit notes words = record {
  faults = ef;
  bad = holds;
  seats = subst (λ k. Sit (new_members k) (vec_items c.seats.seats)) en sit;
  book = refl;
  notes = noted_none (length (blocks c.book)) (vec_items c.notes.notes) (subst (λ k. Holds k []) eb holds) notes;
  noted = ap length notes ∙ length-replicate (length (blocks c.book)) no_note;
  words = words;
  few = omega arith;
  room = λ i. subst (λ (m : Member). length m.web ≤ seat_limit) (sym (new_at (members f) i)) zero-le;
  about = about_nothing (length (blocks c.book));
  known = known_nothing (length (blocks c.book));
}

about_none : (es : List Event) → T (about_below 0 es) → es ≡ []
unfolding about_below
about_none [] t = refl
about_none (e ∷ es) t = absurd (let h = ltb→lt (name_of e) 0 (and_left (ltb (name_of e) 0) (about_below 0 es) t) in omega arith)

-- ---- a member is said to be bad
-- with no block there is no event yet
no_events : (s : Scene) (c : Parts) → HoldWorld s c → length s.blocks ≡ 0 → s.events ≡ []
no_events s c p none = about_none s.events (subst (λ n. T (about_below n s.events)) none p.about)

pub room_found : (bad less : Bool) → bad ≡ true → bad || less ≡ true
room_found bad less e = ap (λ t. t || less) e

pub room_left : (bad : Bool) (have most count limit : ℕ) → count < limit → count ≡ have → limit ≡ most → bad || ltb have most ≡ true
room_left true have most count limit h e f = refl
room_left false have most count limit h e f = lt-ltb have most (omega arith)

-- what is said of a member that was said to be bad, or wasn't, and what the parts hold after it
pub record SaidBadBy (s : Scene) (i : ℕ) (said : Bool) (c : Parts) : Type 0 where
  pub right : said ≡ may_be_bad s i
  pub after : HoldWorld (cond said (with_bad i s) s) c

pub plays_bad : (s : Scene) (c c' : Parts) (i : ℕ) → HoldWorld s c → length s.blocks ≡ 0 → ltb i (members s.faults) ≡ true →
    is_bad s i || ltb (different s.bad) s.faults ≡ true → Holds c'.bad.bits (i ∷ s.bad) → c'.faults ≡ c.faults → c'.book ≡ c.book → c'.seats ≡ c.seats →
    c'.notes ≡ c.notes → c'.words ≡ c.words → SaidBadBy s i true c'
unfolding world
plays_bad s c c' i p none member room holds faults book seats notes words =
    let nothing = no_events s c p none in
    let same : world_in s ≡ world_in (with_bad i s) =
    ap (world s.faults (book_in s) (is_bad s)) nothing ∙ sym (ap (world s.faults (book_in s) (is_bad (with_bad i s))) nothing) in
    record {
      right = sym (ap₂ (λ t u. t && u) (ap₂ (λ t u. t && u) (is_true (leb (length s.blocks) 0) (le→leb (length s.blocks) 0 (omega arith))) member) room);
      after = record {
        faults = ap (λ k. k.f) faults ∙ p.faults;
        bad = holds;
        seats = subst₂ (λ (k : Seats) (w : World). Sit w.all (vec_items k.seats)) (sym seats) same p.seats;
        book = ap blocks book ∙ p.book;
        notes = subst₂ (λ (k : Notes) (w : World). Noted w.signatures w.made (vec_items k.notes)) (sym notes) same p.notes;
        noted = ap (λ (k : Notes). length (vec_items k.notes)) notes ∙ p.noted;
        words = words ∙ p.words;
        few = bad-few (is_bad s i) refl room;
        room = λ j. subst (λ (w : World). length (member_at j w).web ≤ seat_limit) same (p.room j);
        about = p.about;
        known = p.known;
      };
    }
  where
    bad-few : (t : Bool) → is_in i s.bad ≡ t → t || ltb (different s.bad) s.faults ≡ true → different (i ∷ s.bad) ≤ s.faults
    bad-few true e room =
        let h = different_in i s.bad (subst T (sym e) tt) in let few = p.few in omega arith
    bad-few false e room =
        let h = different_new i s.bad (λ t. subst T e t) in
        let lt = ltb→lt (different s.bad) s.faults (subst T (sym room) tt) in
        omega arith

-- ---- books that grow
below_more : (m n : ℕ) → m ≤ n → (xs : List ℕ) → T (all_below m xs) → T (all_below n xs)
below_more m n h xs t = below_in n xs (λ x i. let k = in_below m xs t x i in omega arith)

about_more : (m n : ℕ) → m ≤ n → (es : List Event) → T (about_below m es) → T (about_below n es)
unfolding about_below
about_more m n h [] t = tt
about_more m n h (e ∷ es) t =
    let k = ltb→lt (name_of e) m (and_left (ltb (name_of e) m) (about_below m es) t) in
    and_both (ltb (name_of e) n) (about_below n es) (lt→ltb (name_of e) n (omega arith)) (about_more m n h es (and_right (ltb (name_of e) m) (about_below m es) t))

pub same_below : (ks more : List Block) → ParentsBefore ks → SameBelow (length ks) (book_of ks) (book_of (ks ++ more))
same_below ks more before = record {
  same = λ x h. sym (get_or_append_left ks more empty_block x h);
  closed = λ x h. below_more x (length ks) (omega arith) (book_of ks x).parents (before x h);
}

-- a book with the same blocks, and as many notes that say the same
pub same-blocks : (s : Scene) (c c' : Parts) → HoldWorld s c → blocks c'.book ≡ blocks c.book → vec_items c'.notes.notes ≡ vec_items c.notes.notes →
    c'.faults ≡ c.faults → c'.bad ≡ c.bad → c'.seats ≡ c.seats → c'.words ≡ c.words → HoldWorld s c'
same-blocks s c c' p book notes faults bad seats words = record {
  faults = ap (λ k. k.f) faults ∙ p.faults;
  bad = subst (λ k. Holds k.bits s.bad) (sym bad) p.bad;
  seats = subst (λ (k : Seats). Sit (world_in s).all (vec_items k.seats)) (sym seats) p.seats;
  book = book ∙ p.book;
  notes = subst (λ (l : List Note). Noted (world_in s).signatures (world_in s).made l) (sym notes) p.notes;
  noted = ap length notes ∙ p.noted;
  words = words ∙ p.words;
  few = p.few;
  room = p.room;
  about = p.about;
  known = p.known;
}

-- one more block, of which nothing is noted
pub plays_grown : (s : Scene) (c c' : Parts) (k : Block) → HoldWorld s c → blocks c'.book ≡ s.blocks ++ (k ∷ []) →
    c'.faults ≡ c.faults → c'.bad ≡ c.bad → c'.seats ≡ c.seats → c'.words ≡ c.words →
    length (vec_items c'.notes.notes) ≡ length (vec_items c.notes.notes) + 1 →
    ((x : ℕ) → get_or (vec_items c'.notes.notes) x no_note ≡ get_or (vec_items c.notes.notes) x no_note) →
    HoldWorld (with_blocks (blocks c'.book) s) c'
plays_grown s c c' k p grown faults bad seats words long notes =
    let earlier : ParentsBefore s.blocks = subst ParentsBefore p.book c.book.earlier in
    let n = length s.blocks in
    let size : length (blocks c'.book) ≡ n + 1 = ap length grown ∙ length_push s.blocks k in
    let same : world_in s ≡ world_in (with_blocks (blocks c'.book) s) =
    world_same n (book_in s) (book_of (s.blocks ++ (k ∷ []))) (same_below s.blocks (k ∷ []) earlier) s.faults (is_bad s) s.events p.about
    ∙ ap (λ (l : List Block). world s.faults (book_of l) (is_bad s) s.events) (sym grown) in
    record {
      faults = ap (λ k. k.f) faults ∙ p.faults;
      bad = subst (λ k. Holds k.bits s.bad) (sym bad) p.bad;
      seats = subst₂ (λ (k : Seats) (w : World). Sit w.all (vec_items k.seats)) (sym seats) same p.seats;
      book = refl;
      notes = subst (λ (w : World). Noted w.signatures w.made (vec_items c'.notes.notes)) same
          (record {
            signed = λ x. subst (λ (m : Note). Holds m.signers.bits (signers x (world_in s).signatures)) (sym (notes x)) (p.notes.signed x);
            made = λ x. ap (λ (m : Note). m.made) (notes x) ∙ p.notes.made x;
          });
      noted = long ∙ ap (λ m. m + 1) p.noted ∙ sym size;
      words = words ∙ p.words;
      few = p.few;
      room = λ j. subst (λ (w : World). length (member_at j w).web ≤ seat_limit) same (p.room j);
      about = about_more n (length (blocks c'.book)) (omega arith) s.events p.about;
      known = below_more n (length (blocks c'.book)) (omega arith) (map (λ (m : Naming). m.name) s.words) p.known;
    }

-- the book didn't know the block: it has it behind the others
pub met_new : (l : Lent) (before after : List Block) (k : Block) (x : ℕ) → Met l before k x after → x ≡ length before → after ≡ before ++ (k ∷ [])
met_new l before after k x met e =
    ⊎_elim (λ known. absurd (let h = known.named.there in omega arith)) (λ new. new.grown) met.how

-- or it knew the block: it stays as it is
pub met_known : (l : Lent) (before after : List Block) (k : Block) (x : ℕ) → Met l before k x after → (x ≡ length before → ⊥) → after ≡ before
met_known l before after k x met ne = ⊎_elim (λ known. known.same) (λ new. absurd (ne new.next)) met.how

-- one more word, for a block that is there
pub plays_word : (s : Scene) (c c' : Parts) (text : List ℕ) (x : ℕ) → HoldWorld s c → x < length s.blocks →
    c'.faults ≡ c.faults → c'.book ≡ c.book → c'.bad ≡ c.bad → c'.seats ≡ c.seats → c'.notes ≡ c.notes →
    c'.words ≡ c.words ++ (record { text = text; name = x } ∷ []) → HoldWorld (with_word text x s) c'
plays_word s c c' text x p there faults book bad seats notes words = record {
  faults = ap (λ k. k.f) faults ∙ p.faults;
  bad = subst (λ k. Holds k.bits s.bad) (sym bad) p.bad;
  seats = subst (λ (k : Seats). Sit (world_in s).all (vec_items k.seats)) (sym seats) p.seats;
  book = ap blocks book ∙ p.book;
  notes = subst (λ (k : Notes). Noted (world_in s).signatures (world_in s).made (vec_items k.notes)) (sym notes) p.notes;
  noted = ap (λ (k : Notes). length (vec_items k.notes)) notes ∙ p.noted;
  words = words ∙ ap (λ (l : List Naming). l ++ (record { text = text; name = x } ∷ [])) p.words;
  few = p.few;
  room = p.room;
  about = p.about;
  known =
      subst (λ l. T (all_below (length s.blocks) l)) (sym (map_push (λ (n : Naming). n.name) s.words (record { text = text; name = x })))
      (below_in (length s.blocks) (map (λ (n : Naming). n.name) s.words ++ (x ∷ [])) (λ y i.
      ⊎_elim (λ h. in_below (length s.blocks) (map (λ (n : Naming). n.name) s.words) p.known y h) (λ h. subst (λ z. z < length s.blocks) (sym (in_single y x h)) there)
      (in_append y (map (λ (n : Naming). n.name) s.words) (x ∷ []) i)));
}

-- whether there was memory for the word or not, the parts hold the world of a scene
pub plays_added : (s : Scene) (c c' : Parts) (text : List ℕ) (x : ℕ) → HoldWorld s c → x < length s.blocks →
    c'.faults ≡ c.faults → c'.book ≡ c.book → c'.bad ≡ c.bad → c'.seats ≡ c.seats → c'.notes ≡ c.notes → (r : Result (Unit {0}) AllocError) →
    OnOk r (c'.words ≡ c.words ++ (record { text = text; name = x } ∷ [])) → OnErr r (c'.words ≡ c.words) → Played c'
plays_added s c c' text x p there faults book bad seats notes (Ok u) more same = (_, plays_word s c c' text x p there faults book bad seats notes more)
plays_added s c c' text x p there faults book bad seats notes (Err e) more same =
    (s, same-blocks s c c' p (ap blocks book) (ap (λ (k : Notes). vec_items k.notes) notes) faults bad seats same)

pub no_name : (o : Option ℕ) → false ≡ is_some o → o ≡ None
no_name None e = refl
no_name (Some x) e = absurd (subst T (sym e) tt)

-- a word stands for a block that is there
name_in_lem : (text : List ℕ) (ns : List Naming) (x : ℕ) → name_in text ns ≡ Some x → T (is_in x (map (λ (n : Naming). n.name) ns))
unfolding name_in
name_in_lem text [] x e = let z : ◌≡◌ {A = ℕ} 0 1 = cc in absurd (omega arith)
name_in_lem text (n ∷ ns) x e = go (bytes_eq text n.text) e (name_in_lem text ns x)
  where
    go : (t : Bool) → cond t (Some n.name) (name_in text ns) ≡ Some x → (name_in text ns ≡ Some x → T (is_in x (map (λ (n : Naming). n.name) ns))) →
        T (is_in x (n.name ∷ map (λ (n : Naming). n.name) ns))
    go true e rest = let is : n.name ≡ x = cc in subst (λ (y : ℕ). T (is_in x (y ∷ map (λ (n : Naming). n.name) ns))) (sym is) (in_here x (map (λ (n : Naming). n.name) ns))
    go false e rest = in_there x n.name (map (λ (n : Naming). n.name) ns) (rest e)

pub name_there : (s : Scene) (c : Parts) → HoldWorld s c → (text : List ℕ) (x : ℕ) → name_in text s.words ≡ Some x → x < length s.blocks
name_there s c p text x e = in_below (length s.blocks) (map (λ (n : Naming). n.name) s.words) p.known x (name_in_lem text s.words x e)
