-- That what a member's seat is asked for is there, and that what it reads off its web has the main promise. Assumes nothing.
use Rattle.std.proofs.Common.{◌≡◌, ℕ, zero, suc, ◌<◌, ◌≤◌, Bool, true, false, not, ◌&&◌, T, ltb, ◌⊎◌, List, [], ◌∷◌, ◌++◌, length, get_or, take, Some, vec_items, sym, refl, ap, ◌∙◌, subst, ap₂, subst₂, ⊎_elim, arith, ltb→lt, T_not}
use Rattle.std.proofs.lemmas.List.{length-map, map-id, get_or_append_left, length-append, get_or-map}
use Rattle.std.proofs.Math.Logic.{∥∥₁_elim}
use Rattle.std.proofs.Math.Dec.{T_prop}
use Rattle.std.specs.Coded.{le_prop}
use Rattle.replica.specs.declared.replica.Replica.{Replica}
use Rattle.book.specs.Content.{book_of, ParentsBefore, empty_block}
use Rattle.model.specs.Names.{is_in, distinct, different, all_below}
use Rattle.model.specs.Thresholds.{members, Few}
use Rattle.model.specs.Blocks.{Block, Book, valid}
use Rattle.model.specs.Order.{order}
use Rattle.model.specs.Member.{Member, new_member, rival}
use Rattle.model.specs.Seat.{fit, padded, seat_limit}
use Rattle.model.specs.World.{World, Event, member_at, good, web_of, order_of}
use Rattle.model.specs.Promise.{Begins}
use Rattle.model.specs.Reading.{Readable}
use Rattle.model.proofs.Tools.{and_left, and_right, and_both, decided}
use Rattle.model.proofs.Lists.{In, in_here, in_there, distinct_tail, all_in_lem, in_below, different_within, distinct-different, different≤length}
use Rattle.model.proofs.Counting.{count_bad, count≤different}
use Rattle.model.proofs.InOrder.{order_in_web, order-distinct}
use Rattle.model.proofs.Worlds.{always_sound, rival_is, web_sound}
use Rattle.model.proofs.Safety.{webs_whole, orders_agree, orders_grow, nothing_twice, nothing_forged}
use Rattle.model.proofs.Renaming.{names_dont_matter}
use Rattle.rehearsal.specs.Books.{about_below}
use Rattle.replica.specs.Held.{held as member_of}
use Rattle.rehearsal.specs.Scenes.{Scene, is_bad, book_in, world_in}
use Rattle.rehearsal.specs.Held.{Parts, HoldWorld}
use Rattle.rehearsal.specs.Ordering.{order_in, Earlier, Promised, OrderIs}
use Rattle.rehearsal.proofs.Growing.{world_same, names_below}
use Rattle.rehearsal.proofs.Setting.{same_below}

-- at most so many members are bad as different ones were said to be
few_bad : (f : ℕ) (bad : List ℕ) → different bad ≤ f → Few f (λ j. is_in j bad)
few_bad f bad h = let a = count_bad (members f) (λ j. is_in j bad) in let b = count≤different (members f) bad in omega arith

-- valid blocks, no two of one author and round, are fit
fit_of : (f : ℕ) (b : Book) (xs : List ℕ) → ((x : ℕ) → In x xs → T (valid f b (b x))) → T (distinct xs) →
    ((x y : ℕ) → In x xs → In y xs → (b x).author ≡ (b y).author → (b x).round ≡ (b y).round → x ≡ y) → T (fit f b xs)
unfolding fit
fit_of f b [] all once alone = tt
fit_of f b (x ∷ xs) all once alone =
    and_both (valid f b (b x) && not (rival b x xs)) (fit f b xs)
    (and_both (valid f b (b x)) (not (rival b x xs)) (all x (in_here x xs)) (⊎_elim (λ r. absurd (clash r)) (λ n. n) (decided (rival b x xs))))
    (fit_of f b xs (λ y h. all y (in_there y x xs h)) (distinct_tail x xs once) (λ y z hy hz. alone y z (in_there y x xs hy) (in_there z x xs hz)))
  where
    clash : T (rival b x xs) → ⊥
    clash r = let k = rival_is b x xs r in k.2 (alone x k.0 (in_here x xs) (in_there k.0 x xs k.1) k.3 k.4)

-- what is known of a scene that there is, if it is that a web can be read
pub readable_some : {A : Type 0} (f : ℕ) (b : Book) (xs : List ℕ) → ∥ A ∥₁ → (A → Readable f b xs) → Readable f b xs
readable_some f b xs there so = record {
  whole = ∥∥₁_elim there (T_prop _) (λ a. (so a).whole);
  once = ∥∥₁_elim there (T_prop _) (λ a. (so a).once);
  fits = ∥∥₁_elim there (T_prop _) (λ a. (so a).fits);
  room = ∥∥₁_elim there le_prop (λ a. (so a).room);
}

-- a list at the front of enough places can be read again
pub front_of_padded : (n : ℕ) (xs : List ℕ) → length xs ≤ n → take (length xs) (padded n xs) ≡ xs
unfolding padded
front_of_padded n [] h = refl
front_of_padded zero (x ∷ xs) h = absurd (omega arith)
front_of_padded (suc n) (x ∷ xs) h = ap (λ l. x ∷ l) (front_of_padded n xs (omega arith))

module _ (f : ℕ) (b : Book) (bad : ℕ → Bool) (few : Few f bad) (es : List Event) (i : ℕ) (g : T (good f bad i)) where
  pub web_readable : length (web_of f b bad i es) ≤ seat_limit → Readable f b (web_of f b bad i es)
  web_readable room =
      let whole = webs_whole f b bad few es i g in
      let sound = web_sound f b bad few es i g in
      record { whole = whole.1; once = whole.0; fits = fit_of f b (web_of f b bad i es) sound.all_valid sound.once sound.alone; room = room }

  pub order_short : length (order_of f b bad i es) ≤ length (web_of f b bad i es)
  order_short =
      let sound = web_sound f b bad few es i g in
      let names = order_of f b bad i es in
      let a = distinct-different names (order-distinct sound) in
      let c = different_within names (web_of f b bad i es) (order_in_web sound) in
      let d = different≤length (web_of f b bad i es) in
      omega arith

-- the order of a web is the same in two books that agree on it
module _ (f : ℕ) (bad : ℕ → Bool) (few : Few f bad) (ks more : List Block) (before : ParentsBefore ks) (es : List Event) (about : T (about_below (length ks) es))
    (i : ℕ) (g : T (good f bad i)) where
  same-order : order_of f (book_of ks) bad i es ≡ order_of f (book_of (ks ++ more)) bad i es
  same-order =
      let b = book_of ks in
      let c = book_of (ks ++ more) in
      let agree = same_below ks more before in
      let web = web_of f b bad i es in
      let sound = web_sound f b bad few es i g in
      let below = (names_below (length ks) f b bad es about).webs i in
      let moved =
      names_dont_matter f b c (λ x. x) web (λ x h. all_in_lem (b x).parents web (λ y k. sound.closed x y h k))
      (record {
        apart = λ x y hx hy e. e;
        carried = λ x h.
            sym (agree.same x (in_below (length ks) web below x h))
            ∙ ap (λ (ps : List ℕ). record { author = (b x).author; round = (b x).round; parents = ps; load = (b x).load }) (sym (map-id (b x).parents));
      }) in
      sym (map-id (order f b web)) ∙ sym moved ∙ ap (order f c) (map-id web)
      ∙ ap (λ (w : World). order f c (member_at i w).web) (world_same (length ks) b c agree f bad es about)

  pub earlier_begins : (next : List Event) → Begins (order_of f (book_of ks) bad i es) (order_of f (book_of (ks ++ more)) bad i (next ++ es))
  earlier_begins next =
      subst (λ (xs : List ℕ). Begins xs (order_of f (book_of (ks ++ more)) bad i (next ++ es))) (sym same-order)
      (orders_grow f (book_of (ks ++ more)) bad few next es i g)

-- the front of a book whose blocks build on earlier ones is such a book
front_before : (ks more : List Block) → ParentsBefore (ks ++ more) → ParentsBefore ks
front_before ks more before i h =
    subst (λ (k : Block). T (all_below i k.parents)) (get_or_append_left ks more empty_block i h) (before i (omega (arith, length-append ks more)))

-- what a committee's good member reads has all that is promised
module _ (s : Scene) (c : Parts) (p : HoldWorld s c) where
  few : Few s.faults (is_bad s)
  few = few_bad s.faults s.bad p.few

  pub readable : (i : ℕ) → T (good s.faults (is_bad s) i) → Readable s.faults (book_in s) (member_at i (world_in s)).web
  readable i g = web_readable s.faults (book_in s) (is_bad s) few s.events i g (p.room i)

  pub order_fits : (i : ℕ) → T (good s.faults (is_bad s) i) → length (order_in s i) ≤ seat_limit
  order_fits i g =
      let short = order_short s.faults (book_in s) (is_bad s) few s.events i g in let room = p.room i in omega arith

  earlier : (i : ℕ) → T (good s.faults (is_bad s) i) → (t : Scene) → Earlier t s → Begins (order_in t i) (order_in s i)
  earlier i g t e =
      let before : ParentsBefore t.blocks =
      front_before t.blocks e.more (subst ParentsBefore (p.book ∙ sym e.blocks) c.book.earlier) in
      let here : Begins (order_of s.faults (book_of t.blocks) (is_bad s) i t.events) (order_of s.faults (book_of (t.blocks ++ e.more)) (is_bad s) i (e.next ++ t.events)) =
      earlier_begins s.faults (is_bad s) few t.blocks e.more before t.events e.about i g e.next in
      let now : Begins (order_of s.faults (book_of t.blocks) (is_bad s) i t.events) (order_in s i) =
      subst₂ (λ (ks : List Block) (es : List Event). Begins (order_of s.faults (book_of t.blocks) (is_bad s) i t.events) (order_of s.faults (book_of ks) (is_bad s) i es))
      e.blocks e.events here in
      subst₂ (λ (f : ℕ) (bad : List ℕ). Begins (order_of f (book_of t.blocks) (λ j. is_in j bad) i t.events) (order_in s i)) (sym e.faults) (sym e.bad) now

  pub promised : (i : ℕ) → T (good s.faults (is_bad s) i) → (names : List ℕ) → names ≡ order_in s i → Promised s i names
  promised i g names is = record {
    is = is;
    agrees = λ j gj.
        subst (λ (xs : List ℕ). Begins xs (order_in s j) ⊎ Begins (order_in s j) xs) (sym is) (orders_agree s.faults (book_in s) (is_bad s) few [] s.events i j g gj);
    grows = λ t e. subst (Begins (order_in t i)) (sym is) (earlier i g t e);
    twice = subst (λ (xs : List ℕ). T (distinct xs)) (sym is) (nothing_twice s.faults (book_in s) (is_bad s) few s.events i g);
    forged = λ x h. nothing_forged s.faults (book_in s) (is_bad s) few s.events i g x (subst (λ (xs : List ℕ). T (is_in x xs)) is h);
  }

  -- what a good member's answer says
  pub order-good : (i : ℕ) (names : List ℕ) → T (good s.faults (is_bad s) i) → names ≡ order_in s i → OrderIs s i (Some names)
  order-good i names g is = record {
    nobody = λ t. absurd (subst T t (and_left (ltb i (members s.faults)) (not (is_bad s i)) g));
    bad_empty = λ _ bad. absurd (T_not (is_bad s i) (and_right (ltb i (members s.faults)) (not (is_bad s i)) g) (subst T (sym bad) tt));
    promised = λ _. (names, refl, promised i g names is);
  }

  pub good_so : (i : ℕ) → true ≡ ltb i (members s.faults) → false ≡ is_bad s i → T (good s.faults (is_bad s) i)
  good_so i member fine =
      and_both (ltb i (members s.faults)) (not (is_bad s i)) (subst T member tt) (subst (λ (t : Bool). T (not t)) fine tt)

  module _ (ks : List Block) (ek : ks ≡ s.blocks) (i : ℕ) (g : T (good s.faults (is_bad s) i)) where
    -- the seat may be asked for its order
    pub readable-seat : (d : Replica) → i < length (vec_items c.seats.seats) → Readable c.faults.f (book_of ks) (member_of (get_or (vec_items c.seats.seats) i d)).web
    readable-seat d h =
        let seats = vec_items c.seats.seats in
        let held : member_of (get_or seats i d) ≡ member_at i (world_in s) =
        sym (get_or-map member_of seats i d new_member h) ∙ ap (λ (l : List Member). get_or l i new_member) p.seats.hold in
        subst (λ (m : Member). Readable c.faults.f (book_of ks) m.web) (sym held)
        (subst₂ (λ (n : ℕ) (l : List Block). Readable n (book_of l) (member_at i (world_in s)).web) (sym p.faults) (sym ek) (readable i g))

    -- and what it gives is the order
    pub names-read : (count : ℕ) (out names : List ℕ) → names ≡ take count out → count ≡ length (order c.faults.f (book_of ks) (member_at i (world_in s)).web) →
        out ≡ padded 4096 (order c.faults.f (book_of ks) (member_at i (world_in s)).web) → names ≡ order_in s i
    names-read count out names is long listed =
        let same : order c.faults.f (book_of ks) (member_at i (world_in s)).web ≡ order_in s i =
        ap₂ (λ (n : ℕ) (l : List Block). order n (book_of l) (member_at i (world_in s)).web) p.faults ek in
        let fits = order_fits i g in
        is ∙ ap₂ (λ (n : ℕ) (l : List ℕ). take n l) (long ∙ ap length same) (listed ∙ ap (padded 4096) same) ∙ front_of_padded 4096 (order_in s i) fits

  pub member_seated : (i : ℕ) → T (good s.faults (is_bad s) i) → i < length (vec_items c.seats.seats)
  member_seated i g =
      let size = (always_sound s.faults (book_in s) (is_bad s) s.events).size in
      let seats : length (vec_items c.seats.seats) ≡ length (world_in s).all = sym (length-map (vec_items c.seats.seats) member_of) ∙ ap length p.seats.hold in
      let h = ltb→lt i (members s.faults) (and_left (ltb i (members s.faults)) (not (is_bad s i)) g) in
      omega arith
