-- That a committee holds the world of the events, after each step of a member. Assumes nothing.
use Rattle.std.proofs.Common.{◌≡◌, ℕ, ◌<◌, ◌≤◌, Bool, true, false, cond, not, ◌&&◌, T, eqb, ltb, List, ◌∷◌, length, get_or, set, vec_items, is_ok, Ok, Err, Result, sym, refl, ap, ◌∙◌, subst, ap₂, subst₂, arith, ltb→lt, lt→ltb}
use lib.Dec.{nleb→lt}
use Rattle.std.proofs.lemmas.Bool.{lt-ltb}
use Rattle.book.specs.Content.{book_of}
use Rattle.model.specs.Thresholds.{members}
use Rattle.model.specs.Blocks.{Block}
use Rattle.model.specs.Member.{Member, new_member, signable, takable, makable, after_sign, after_take, after_make}
use Rattle.model.specs.Seat.{full_signed, full_web, full_round, seat_limit, answer, done}
use Rattle.model.specs.World.{World, Event, Forges as forges, member_at, good, genuine, certified, world, with_member, with_signature, with_made}
use Rattle.model.proofs.Tools.{and_left, and_both, cond-then}
use Rattle.model.proofs.Thresholds.{members-fit}
use Rattle.model.proofs.Worlds.{always_sound, changed}
use Rattle.std.specs.Prelude.{IsErr}
use Rattle.replica.specs.declared.seat.Denied.{Denied}
use Rattle.replica.specs.declared.seat.Denied.TheVariants.{MayNot, NoRoom}
use Rattle.replica.specs.Answers.{number_of}
use Rattle.rehearsal.specs.declared.seats.Seats.{Seats}
use Rattle.rehearsal.specs.declared.notes.Notes.{Notes}
use Rattle.rehearsal.specs.declared.act.Act.{Act}
use Rattle.rehearsal.specs.declared.act.Act.TheVariants.{Makes, Signs, Takes, Forges}
use Rattle.rehearsal.specs.Books.{name_of, about_below}
use Rattle.rehearsal.specs.Seated.{Sit, StepsFrom}
use Rattle.rehearsal.specs.Noted.{Noted}
use Rattle.rehearsal.specs.Scenes.{Scene, is_bad, book_in, world_in, event_of, may_happen, with_event}
use Rattle.rehearsal.specs.Held.{Parts, HoldWorld}

true_is : (a : Bool) → a ≡ true → T a
true_is a e = subst T (sym e) tt

-- what a step may change
abbrev pub with_step : Parts → Seats → Notes → Parts
with_step c seats notes = record { faults = c.faults; book = c.book; bad = c.bad; seats = seats; notes = notes; words = c.words }

-- what is said of a step that was done or not, and what the parts hold after it
pub record ActedBy (s : Scene) (act : Act) (i x : ℕ) (said : Bool) (c : Parts) : Type 0 where
  pub right : said ≡ may_happen s act i x
  pub after : HoldWorld (cond said (with_event (event_of act i x) s) s) c

-- seats that hold the same
pub same-world : (s : Scene) (c : Parts) (seats : Seats) → HoldWorld s c → Sit (world_in s).all (vec_items seats.seats) → HoldWorld s (with_step c seats c.notes)
same-world s c seats p sit = record {
  faults = p.faults;
  bad = p.bad;
  seats = sit;
  book = p.book;
  notes = p.notes;
  noted = p.noted;
  words = p.words;
  few = p.few;
  room = p.room;
  about = p.about;
  known = p.known;
}

-- one more event
pub one_more : (s : Scene) (c : Parts) (seats : Seats) (notes : Notes) → HoldWorld s c → (e : Event) (w : World) → world s.faults (book_in s) (is_bad s) (e ∷ s.events) ≡ w →
    name_of e < length s.blocks → Sit w.all (vec_items seats.seats) → Noted w.signatures w.made (vec_items notes.notes) →
    length (vec_items notes.notes) ≡ length (vec_items c.notes.notes) → ((i : ℕ) → length (member_at i w).web ≤ seat_limit) →
    HoldWorld (with_event e s) (with_step c seats notes)
unfolding about_below
one_more s c seats notes p e w is there sit noted long room = record {
  faults = p.faults;
  bad = p.bad;
  seats = subst (λ (v : World). Sit v.all (vec_items seats.seats)) (sym is) sit;
  book = p.book;
  notes = subst (λ (v : World). Noted v.signatures v.made (vec_items notes.notes)) (sym is) noted;
  noted = long ∙ p.noted;
  words = p.words;
  few = p.few;
  room = λ i. subst (λ (v : World). length (member_at i v).web ≤ seat_limit) (sym is) (room i);
  about = and_both (ltb (name_of e) (length s.blocks)) (about_below (length s.blocks) s.events) (lt→ltb (name_of e) (length s.blocks) there) p.about;
  known = p.known;
}

-- a good member has a seat
has_seat : (s : Scene) (i : ℕ) → good s.faults (is_bad s) i ≡ true → ltb i (length (world_in s).all) ≡ true
has_seat s i g =
    let size = (always_sound s.faults (book_in s) (is_bad s) s.events).size in
    let t = ltb→lt i (members s.faults) (and_left (ltb i (members s.faults)) (not (is_bad s i)) (true_is (good s.faults (is_bad s) i) g)) in
    lt-ltb i (length (world_in s).all) (omega arith)

-- a step's answer, where the member is good
right_so : (g l may full said : Bool) → g ≡ true → l ≡ true → said ≡ (l && may && not full) → said ≡ (g && (may && not full))
right_so g l may full said eg el e = e ∙ ap (λ t. t && may && not full) el ∙ ap (λ t. t && (may && not full)) (sym eg)

may_so : (g may full said : Bool) → said ≡ (g && (may && not full)) → said ≡ true → T (g && may)
may_so true true full said e t = tt
may_so true false full said e t = subst T (sym t ∙ e) tt
may_so false may full said e t = subst T (sym t ∙ e) tt

room_so : (g may full said : Bool) → said ≡ (g && (may && not full)) → said ≡ true → T (not full)
room_so true true full said e t = subst T (sym t ∙ e) tt
room_so true false full said e t = absurd (subst T (sym t ∙ e) tt)
room_so false may full said e t = absurd (subst T (sym t ∙ e) tt)

not_full : (m : Member) (x : ℕ) → T (not (full_web m)) → length (after_take x m).web ≤ seat_limit
not_full m x t = nleb→lt seat_limit (length m.web) t

-- a good member's number is small
pub small_member : (f i : ℕ) → f ≤ 4 → ltb i (members f) ≡ true → i < 64
small_member f i few member = let lt = ltb→lt i (members f) (true_is (ltb i (members f)) member) in let h = members-fit f few in omega arith

pub small_number : (f i : ℕ) (bad : ℕ → Bool) → f ≤ 4 → good f bad i ≡ true → i < 64
small_number f i bad few g =
    let t = ltb→lt i (members f) (and_left (ltb i (members f)) (not (bad i)) (true_is (good f bad i) g)) in let h = members-fit f few in omega arith

-- a step was done if its answer has the number of that
pub done_is : {A : Type 0} (r : Result A Denied) → is_ok r ≡ eqb (number_of r) done
done_is (Ok x) = refl
done_is (Err MayNot) = refl
done_is (Err NoRoom) = refl

-- a step that was denied, and what is answered then
pub not_done : {A B E : Type 0} (r : Result A E) (q : Result B Denied) (denied : Denied) → IsErr r → q ≡ Err denied → (is_ok r ≡ false) × (false ≡ eqb (number_of q) done)
not_done (Ok x) q denied told is = absurd (subst T (sym told) tt)
not_done (Err e) q denied told is = (refl, sym (ap is_ok is) ∙ done_is q)

answered : (may full : Bool) (given : ℕ) → given ≡ answer may full → eqb given done ≡ (may && not full)
answered true true given e = ap (λ n. eqb n done) e
answered true false given e = ap (λ n. eqb n done) e
answered false full given e = ap (λ n. eqb n done) e

-- A step of a good member of a scene whose world the parts hold. The seat read the book as a list of blocks.
module _ (s : Scene) (c : Parts) (p : HoldWorld s c) (seats : Seats) (i x : ℕ) (g : good s.faults (is_bad s) i ≡ true) where
  m : Member
  m = member_at i (world_in s)

  -- what the seat answered, where the member is good
  so : (may full : Member → Bool) (next : Member → Member) (given : ℕ) (said : Bool) → said ≡ eqb given done → StepsFrom (world_in s).all i may full next given (vec_items seats.seats) →
      said ≡ (good s.faults (is_bad s) i && (may m && not (full m)))
  unfolding m
  so may full next given said e st =
      right_so (good s.faults (is_bad s) i) (ltb i (length (world_in s).all)) (may m) (full m) said g (has_seat s i g)
      (e ∙ answered (ltb i (length (world_in s).all) && may m) (full m) given st.right)

  after_step : (may full : Member → Bool) (next : Member → Member) (given : ℕ) (said : Bool) → said ≡ eqb given done → StepsFrom (world_in s).all i may full next given (vec_items seats.seats) →
      Sit (cond said (set (world_in s).all i (next m)) (world_in s).all) (vec_items seats.seats)
  unfolding m
  after_step may full next given said e st =
      subst (λ (t : Bool). Sit (cond t (set (world_in s).all i (next m)) (world_in s).all) (vec_items seats.seats)) (sym e) st.after

  -- whatever the step is: it is refused, and nothing changed
  refused : (act : Act) (may full : Member → Bool) (next : Member → Member) (given : ℕ) → may_happen s act i x ≡ (good s.faults (is_bad s) i && (may m && not (full m))) →
      (said : Bool) → (said ≡ false) × (false ≡ eqb given done) → StepsFrom (world_in s).all i may full next given (vec_items seats.seats) →
      ActedBy s act i x said (with_step c seats c.notes)
  refused act may full next given is said e st =
      subst (λ (t : Bool). ActedBy s act i x t (with_step c seats c.notes)) (sym e.0)
      (record {
        right = so may full next given false e.1 st ∙ sym is;
        after = same-world s c seats p (after_step may full next given false e.1 st);
      })

  -- or it is done, and is the latest event
  did : (notes : Notes) (act : Act) (may full : Member → Bool) (next : Member → Member) (given : ℕ) (w : World) → may_happen s act i x ≡ (good s.faults (is_bad s) i && (may m && not (full m))) →
      (T (good s.faults (is_bad s) i && may m) → world s.faults (book_in s) (is_bad s) (event_of act i x ∷ s.events) ≡ w) →
      name_of (event_of act i x) < length s.blocks → w.all ≡ set (world_in s).all i (next m) →
      true ≡ eqb given done → StepsFrom (world_in s).all i may full next given (vec_items seats.seats) →
      Noted w.signatures w.made (vec_items notes.notes) → length (vec_items notes.notes) ≡ length (vec_items c.notes.notes) →
      (T (not (full m)) → length (next m).web ≤ seat_limit) → ActedBy s act i x true (with_step c seats notes)
  did notes act may full next given w is steps there all e st noted long fits =
      let right = so may full next given true e st in
      record {
        right = right ∙ sym is;
        after =
            one_more s c seats notes p (event_of act i x) w (steps (may_so (good s.faults (is_bad s) i) (may m) (full m) true right refl)) there
            (subst (λ (ms : List Member). Sit ms (vec_items seats.seats)) (sym all) (after_step may full next given true e st)) noted long
            (λ j. subst (λ (ms : List Member). length (get_or ms j new_member).web ≤ seat_limit) (sym all)
            (changed (λ k n. length n.web ≤ seat_limit) i (next m) (world_in s) (fits (room_so (good s.faults (is_bad s) i) (may m) (full m) true right refl)) p.room j));
      }

  module _ (l : List Block) (el : l ≡ s.blocks) (given : ℕ) where
    abbrev pub MakeSteps : ℕ → List Block → Type 0
    MakeSteps f k = StepsFrom (world_in s).all i (makable f (book_of k) i x) full_round after_make given (vec_items seats.seats)

    make_steps : MakeSteps c.faults.f l → MakeSteps s.faults s.blocks
    make_steps st = subst₂ MakeSteps p.faults el st

    pub makes-refused : (said : Bool) → (said ≡ false) × (false ≡ eqb given done) → MakeSteps c.faults.f l → ActedBy s Makes i x said (with_step c seats c.notes)
    unfolding m
    makes-refused said e st = refused Makes _ _ _ given refl said e (make_steps st)

    pub makes-done : (notes : Notes) → true ≡ eqb given done → MakeSteps c.faults.f l → x < length s.blocks → Noted (world_in s).signatures (x ∷ (world_in s).made) (vec_items notes.notes) →
        length (vec_items notes.notes) ≡ length (vec_items c.notes.notes) → ActedBy s Makes i x true (with_step c seats notes)
    unfolding world m
    makes-done notes e st there noted long =
        did notes Makes _ _ _ given (with_made x (with_member i (after_make m) (world_in s))) refl
        (λ t. cond-then (good s.faults (is_bad s) i && makable s.faults (book_in s) i x m) _ _ t) there refl
        e (make_steps st) noted long (λ _. p.room i)

    abbrev pub SignSteps : ℕ → List Block → Bool → Type 0
    SignSteps f k sure = StepsFrom (world_in s).all i (signable f (book_of k) sure x) full_signed (after_sign x) given (vec_items seats.seats)

    sign-steps : (sure : Bool) → sure ≡ genuine (book_in s) (is_bad s) x (world_in s) → SignSteps c.faults.f l sure →
        SignSteps s.faults s.blocks (genuine (book_in s) (is_bad s) x (world_in s))
    sign-steps sure es st =
        subst (λ t. SignSteps s.faults s.blocks t) es (subst₂ (λ f k. SignSteps f k sure) p.faults el st)

    pub signs-refused : (sure : Bool) → sure ≡ genuine (book_in s) (is_bad s) x (world_in s) → (said : Bool) → (said ≡ false) × (false ≡ eqb given done) → SignSteps c.faults.f l sure →
        ActedBy s Signs i x said (with_step c seats c.notes)
    unfolding m
    signs-refused sure es said e st = refused Signs _ _ _ given refl said e (sign-steps sure es st)

    pub signs-done : (notes : Notes) (sure : Bool) → sure ≡ genuine (book_in s) (is_bad s) x (world_in s) → true ≡ eqb given done → SignSteps c.faults.f l sure → x < length s.blocks →
        (n y : ℕ) → n ≡ i → y ≡ x → Noted (record { who = n; name = y } ∷ (world_in s).signatures) (world_in s).made (vec_items notes.notes) →
        length (vec_items notes.notes) ≡ length (vec_items c.notes.notes) → ActedBy s Signs i x true (with_step c seats notes)
    unfolding world m
    signs-done notes sure es e st there n y en ey noted long =
        did notes Signs _ _ _ given (with_signature i x (with_member i (after_sign x m) (world_in s))) refl
        (λ t. cond-then (good s.faults (is_bad s) i && signable s.faults (book_in s) (genuine (book_in s) (is_bad s) x (world_in s)) x m) _ _ t) there refl
        e (sign-steps sure es st)
        (subst₂ (λ (j k : ℕ). Noted (record { who = j; name = k } ∷ (world_in s).signatures) (world_in s).made (vec_items notes.notes)) en ey noted) long (λ _. p.room i)

    abbrev pub TakeSteps : List Block → Bool → Type 0
    TakeSteps k sure = StepsFrom (world_in s).all i (takable (book_of k) sure x) full_web (after_take x) given (vec_items seats.seats)

    take_steps : (sure : Bool) → sure ≡ certified s.faults x (world_in s) → TakeSteps l sure → TakeSteps s.blocks (certified s.faults x (world_in s))
    take_steps sure es st = subst₂ (λ k t. TakeSteps k t) el es st

    pub takes-so : (sure : Bool) → sure ≡ certified s.faults x (world_in s) → (said : Bool) → said ≡ eqb given done → TakeSteps l sure → x < length s.blocks →
        ActedBy s Takes i x said (with_step c seats c.notes)
    unfolding world m
    takes-so sure es true e st there =
        did c.notes Takes _ _ _ given (with_member i (after_take x m) (world_in s)) refl
        (λ t. cond-then (good s.faults (is_bad s) i && takable (book_in s) (certified s.faults x (world_in s)) x m) _ _ t) there refl
        e (take_steps sure es st) p.notes refl (not_full m x)
    takes-so sure es false e st there = refused Takes _ _ _ given refl false (refl, e) (take_steps sure es st)

-- a bad member signs what it likes
pub forges_done : (s : Scene) (c : Parts) (notes : Notes) → HoldWorld s c → (i x : ℕ) → x < length s.blocks → ltb i (members s.faults) ≡ true → is_bad s i ≡ true →
    Noted (record { who = i; name = x } ∷ (world_in s).signatures) (world_in s).made (vec_items notes.notes) →
    length (vec_items notes.notes) ≡ length (vec_items c.notes.notes) → ActedBy s Forges i x true (with_step c c.seats notes)
unfolding world
forges_done s c notes p i x there member bad noted long = record {
  right = sym (ap₂ (λ t u. t && u) member bad);
  after =
      one_more s c c.seats notes p (forges i x) (with_signature i x (world_in s))
      (cond-then (ltb i (members s.faults) && is_bad s i) _ _ (true_is _ (ap₂ (λ t u. t && u) member bad))) there p.seats noted long p.room;
}
