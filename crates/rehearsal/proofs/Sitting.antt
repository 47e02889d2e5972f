-- That the seats hold what the members should after a step of one. Assumes nothing.
use Rattle.std.proofs.Common.{◌≡◌, ℕ, zero, suc, ◌+◌, ◌<◌, Bool, true, false, cond, ◌&&◌, T, eqb, ltb, List, [], ◌∷◌, ◌++◌, map, length, get_or, set, is_some, Some, None, Option, MutBor, sym, refl, ap, ◌∙◌, subst, ap₂, ⊎_elim, add-one, arith, ltb→lt}
use Rattle.std.specs.Prelude.{IfSome}
use Rattle.std.proofs.lemmas.List.{get_or-map, length-map, map-set, map_push, set-get_or, length-set, length_push, get_or-set_same, get_or-set_other, get_or_append_left, get_or_push}
use Rattle.std.proofs.lemmas.Bool.{lt-ltb, cases_eq, cases_lt}
use Rattle.replica.specs.declared.replica.Replica.{Replica}
use Rattle.model.specs.Member.{Member, new_member}
use Rattle.model.specs.Seat.{answer, after, done}
use Rattle.model.specs.World.{new_members}
use Rattle.model.proofs.Worlds.{new_size}
use Rattle.rehearsal.specs.Seated.{Sit, StepsFrom}
use Rattle.replica.specs.Held.{held as member_of}

-- the seat that a look at a place finds
pub found : (seats : List Replica) (i : ℕ) (o : Option (MutBor Replica)) (seat : MutBor Replica) → o ≡ Some seat → is_some o ≡ ltb i (length seats) →
    IfSome o (λ x. x.now ≡ get_or seats i x.now) → (i < length seats) × (seat.now ≡ get_or seats i seat.now)
found seats i None seat e has told = absurd (subst (λ o. T (is_some o)) (sym e) tt)
found seats i (Some x) seat e has told =
    let same : x ≡ seat = cc in
    (ltb→lt i (length seats) (subst T has tt), subst (λ (y : MutBor Replica). y.now ≡ get_or seats i y.now) same told)

module _ (ms : List Member) (seats : List Replica) (sit : Sit ms seats) (i : ℕ) (within : i < length seats) (old new : Replica) (is : old ≡ get_or seats i old) where
  size : length ms ≡ length seats
  size = ap length (sym sit.hold) ∙ length-map seats member_of

  held : member_of old ≡ get_or ms i new_member
  held = ap member_of is ∙ sym (get_or-map member_of seats i old new_member within) ∙ ap (λ l. get_or l i new_member) sit.hold

  number_is : old.number ≡ i
  number_is = ap (λ (r : Replica). r.number) is ∙ sit.numbered i old within

  still_numbered : new.number ≡ old.number → (j : ℕ) (d : Replica) → j < length (set seats i new) → (get_or (set seats i new) j d).number ≡ j
  still_numbered same j d h =
      let long = length-set seats i new in
      ⊎_elim
      (λ e. subst (λ k. (get_or (set seats i new) k d).number ≡ k) (sym e)
      (ap (λ (r : Replica). r.number) (get_or-set_same seats i new d within) ∙ same ∙ number_is))
      (λ ne. ap (λ (r : Replica). r.number) (get_or-set_other seats i j new d ne) ∙ sit.numbered j d (omega arith))
      (cases_eq j i)

  new_seated : (given : ℕ) (m : Member) → member_of new ≡ after given m (member_of old) → map member_of (set seats i new) ≡ cond (eqb given done) (set ms i m) ms
  new_seated given m e =
      map-set member_of seats i new ∙ ap₂ (λ l n. set l i n) sit.hold (e ∙ ap (λ n. after given m n) held) ∙ go (eqb given done)
    where
      go : (t : Bool) → set ms i (cond t m (get_or ms i new_member)) ≡ cond t (set ms i m) ms
      go true = refl
      go false = set-get_or ms i new_member

  -- A step of the seat at place i, that may be done as `may` says of the member, unless there is no room, as `full` says.
  pub stepped : (may : ℕ → Member → Bool) (full : Member → Bool) (next : Member → Member) (given : ℕ) →
      given ≡ answer (may old.number (member_of old)) (full (member_of old)) → member_of new ≡ after given (next (member_of old)) (member_of old) →
      new.number ≡ old.number → StepsFrom ms i (may i) full next given (set seats i new)
  stepped may full next given e h same =
      let m = get_or ms i new_member in
      let there : ltb i (length ms) ≡ true = lt-ltb i (length ms) (omega (arith, size)) in
      record {
        right = e ∙ ap₂ (λ k n. answer (may k n) (full n)) number_is held ∙ ap (λ t. answer (t && may i m) (full m)) (sym there);
        after = record {
          hold = new_seated given (next m) (h ∙ ap (λ n. after given (next n) (member_of old)) held);
          numbered = still_numbered same;
        };
      }

-- ---- at the start
new_push : (n : ℕ) → new_members n ++ (new_member ∷ []) ≡ new_members (suc n)
unfolding new_members
new_push zero = refl
new_push (suc n) = ap (λ l. new_member ∷ l) (new_push n)

pub sit_none : (seats : List Replica) → seats ≡ [] → Sit (new_members 0) seats
unfolding new_members
sit_none seats e = record { hold = ap (map member_of) e; numbered = λ i d h. absurd (let z = ap length e in omega arith) }

pub sit_push : (n : ℕ) (seats all : List Replica) (new : Replica) → Sit (new_members n) seats → member_of new ≡ new_member → new.number ≡ n →
    all ≡ seats ++ (new ∷ []) → Sit (new_members (n + 1)) all
sit_push n seats all new sit m i e =
    let long : length seats ≡ n = sym (length-map seats member_of) ∙ ap length sit.hold ∙ new_size n in
    record {
      hold =
          ap (map member_of) e ∙ map_push member_of seats new ∙ ap₂ (λ l k. l ++ (k ∷ [])) sit.hold m ∙ new_push n ∙ ap new_members (sym (add-one n));
      numbered = λ j d h.
          let size = ap length e ∙ length_push seats new in
          ap (λ l. (get_or l j d).number) e
          ∙ ⊎_elim (λ lt. ap (λ (r : Replica). r.number) (get_or_append_left seats (new ∷ []) d j lt) ∙ sit.numbered j d lt)
          (λ ge.
          let at : length seats ≡ j = omega arith in
          ap (λ (r : Replica). r.number) (get_or_push seats new d j at) ∙ i ∙ sym long ∙ at)
          (cases_lt j (length seats));
    }
