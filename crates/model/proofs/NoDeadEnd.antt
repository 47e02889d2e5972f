-- No state is a dead end: good members can come to one round, gather all that was made under their blocks, and go on to a round whose leader is
-- good; its block gets the votes of all good members, and brings everything into every order. Assumes that at most f members are bad, f is at
-- most 4, and the book has a name for every block within the limits.
use mathlib.Core.Path.{◌≡◌, refl, ap, sym, subst, ◌∙◌}
use mathlib.Core.Bool.{Bool, not}
use mathlib.Core.List.{List, [], ◌∷◌, ◌++◌}
use mathlib.Core.Logic.{⊎_elim}
use Prim.Native.Nat.{ℕ, zero, suc, ◌+◌, ◌-◌, ◌*◌, ◌/◌, ◌%◌, ◌≤◌, ◌<◌}
use native.Mathlib.Nat.{mul_comm, le-mul_of_pos_right, mul-add-mod_self_left, mod-eq_of_lt}
use native.Mathlib.Omega.{arith}
use lib.Dec.{T, ltb, lt→ltb}
use Rattle.model.specs.Names.{all_in, union}
use Rattle.model.specs.Thresholds.{members, Few}
use Rattle.model.specs.Blocks.{Block, Book, authors_at, within_limits}
use Rattle.model.specs.Reach.{reached}
use Rattle.model.specs.Order.{leader}
use Rattle.model.specs.World.{Event, member_at, good, world, web_of, order_of}
use Rattle.model.specs.Promise.{by_good, NoDeadEnd}
use Rattle.model.proofs.Tools.{and_both, same_or_not}
use Rattle.model.proofs.Lists.{In, Within, in_here, in_there, in_none, in_cons, in_single, all_in_lem, distinct_none, distinct_cons, in_union_left, in_union_right}
use Rattle.model.proofs.Thresholds.{today, good_have_votes, votes_few, some_good, member_some}
use Rattle.model.proofs.Validity.{in_authors, authors_in}
use Rattle.model.proofs.Reach.{reached_self, reached_parents, reached_through}
use Rattle.model.proofs.TwoWebs.{leader_block_found, votes_of_authors, voted_is_anchor}
use Rattle.model.proofs.InOrder.{anchor_listed}
use Rattle.model.proofs.Worlds.{Sound, always_sound, web_sound, good_member}
use Rattle.model.proofs.Steps.{After, after_none, after_then, after_grown}
use Rattle.model.proofs.Spread.{AllHave, spread}
use Rattle.model.proofs.Rounds.{made_of, Parents, NextRound, next_round, Row, row, row_parents, no_parents}

-- each good member is at a round from r to the top
pub record Climbing (f : ℕ) (b : Book) (bad : ℕ → Bool) (r top : ℕ) (es : List Event) : Type 0 where
  pub have : AllHave f b bad es
  pub low : (i : ℕ) → T (good f bad i) → r ≤ (member_at i (world f b bad es)).round
  pub high : (i : ℕ) → T (good f bad i) → (member_at i (world f b bad es)).round ≤ top

-- all good members have made their blocks up to round r and no further, hold all that was made, and their blocks of round r reach a list of blocks
pub record Level (f : ℕ) (b : Book) (bad : ℕ → Bool) (r : ℕ) (gathered : List ℕ) (es : List Event) : Type 0 where
  pub have : AllHave f b bad es
  pub rounds : (i : ℕ) → T (good f bad i) → (member_at i (world f b bad es)).round ≡ suc r
  pub reaches : (x : ℕ) → In x (world f b bad es).made → (b x).round ≡ r → Within gathered (reached b x)

-- the blocks of round r + 1 have all those of round r as parents
abbrev pub Linked : ℕ → Book → (ℕ → Bool) → ℕ → List Event → Type 0
Linked f b bad r es =
    (x y : ℕ) → In x (world f b bad es).made → (b x).round ≡ suc r → In y (world f b bad es).made → (b y).round ≡ r → In y (b x).parents

-- the rounds of the first n members have a bound
bounded : (f : ℕ) (b : Book) (bad : ℕ → Bool) (es : List Event) (n : ℕ) → (top : ℕ) × ((i : ℕ) → i < n → (member_at i (world f b bad es)).round ≤ top)
bounded f b bad es zero = (0, λ i h. absurd (omega arith))
bounded f b bad es (suc n) =
    let rest = bounded f b bad es n in
    let here = (member_at n (world f b bad es)).round in (
      rest.0 + here,
      λ i h.
          ⊎_elim (λ e. let q : (member_at i (world f b bad es)).round ≡ here = ap (λ k. (member_at k (world f b bad es)).round) e in omega arith)
          (λ d. let q = rest.1 i (omega arith) in omega arith)
          (same_or_not i n),
    )

module _ (f : ℕ) (small : f ≤ 4) (b : Book) (name_of : Block → ℕ) (named : (k : Block) → T (within_limits k) → b (name_of k) ≡ k) (bad : ℕ → Bool)
    (few : Few f bad) where
  -- ---- to one round
  climb_one : (r top : ℕ) (es : List Event) → r < top → Climbing f b bad r top es → (es' : List Event) × After f b bad es es' × Climbing f b bad (suc r) top es'
  climb_one r top es h c = go r refl
    where
      up : (parents : List ℕ) → Parents f b bad r parents es → (es' : List Event) × After f b bad es es' × Climbing f b bad (suc r) top es'
      up parents p =
          let n = next_round f b name_of named bad few r parents es p in
          let m = n.1 in (
            n.0,
            m.way,
            record {
              have = m.have;
              low = λ i g.
                  ⊎_elim (λ e. let q = (m.go i g e).0 in omega arith) (λ d. let q = m.stay i d in let l = c.low i g in omega arith)
                  (same_or_not (member_at i (world f b bad es)).round r);
              high = λ i g.
                  ⊎_elim (λ e. let q = (m.go i g e).0 in omega arith) (λ d. let q = m.stay i d in let l = c.high i g in omega arith)
                  (same_or_not (member_at i (world f b bad es)).round r);
            },
          )

      go : (k : ℕ) → k ≡ r → (es' : List Event) × After f b bad es es' × Climbing f b bad (suc r) top es'
      go zero e = up [] (subst (λ k. Parents f b bad k [] es) e (no_parents f b bad es))
      go (suc k) e =
          let blocks = row f b bad k es (λ i g. let l = c.low i g in omega arith) (members f) in
          up (union [] blocks.blocks)
          (subst (λ j. Parents f b bad j (union [] blocks.blocks) es) e
          (row_parents f small b bad few k es c.have blocks [] (omega arith) distinct_none (λ x t. absurd (in_none x t)) (λ x t. absurd (in_none x t))))

  climb :
      (steps r top : ℕ) (es : List Event) → top ≡ r + steps → Climbing f b bad r top es →
      (es' : List Event) × After f b bad es es' × Climbing f b bad top top es'
  climb zero r top es e c = (es, after_none f b bad es, subst (λ k. Climbing f b bad k top es) (omega arith) c)
  climb (suc n) r top es e c =
      let one = climb_one r top es (omega arith) c in
      let rest = climb n (suc r) top one.0 (omega arith) one.2 in
      (rest.0, after_then one.1 rest.1, rest.2)

  -- ---- one round on from a level, gathering one block more
  next_level :
      (r : ℕ) (gathered : List ℕ) (es : List Event) → Level f b bad r gathered es → (e : ℕ) → In e (world f b bad es).made → (b e).round ≤ r →
      (es' : List Event) × After f b bad es es' × Level f b bad (suc r) (e ∷ gathered) es' × Linked f b bad r es'
  next_level r gathered es l e he re =
      let blocks = row f b bad r es (λ i g. let q = l.rounds i g in omega arith) (members f) in
      let extra = e ∷ [] in
      let parents = union extra blocks.blocks in
      let ready =
      row_parents f small b bad few r es l.have blocks extra (omega arith) (distinct_cons e [] (in_none e) distinct_none)
      (λ x t. subst (λ z. In z (world f b bad es).made) (sym (in_single x e t)) he)
      (λ x t. subst (λ z. (b z).round ≤ r) (sym (in_single x e t)) re) in
      finish blocks (next_round f b name_of named bad few (suc r) parents es ready)
    where
      finish :
          (blocks : Row f b bad r es (members f)) →
          (es' : List Event) × NextRound f b name_of bad (suc r) (union (e ∷ []) blocks.blocks) es es' →
          (es' : List Event) × After f b bad es es' × Level f b bad (suc r) (e ∷ gathered) es' × Linked f b bad r es'
      finish blocks (es', m) = (es', m.way, record { have = m.have; rounds = λ i g. (m.go i g (l.rounds i g)).0; reaches = reaches }, linked)
        where
          parents : List ℕ
          parents = union (e ∷ []) blocks.blocks

          made : List ℕ
          made = (world f b bad es').made

          sound' : Sound f b bad (world f b bad es')
          sound' = always_sound f b bad es'

          -- a block of the new round is the one that its author made on these parents
          parents-of : (x : ℕ) → In x made → (b x).round ≡ suc r → (b x).parents ≡ parents
          parents-of x hx rx =
              let g = sound'.made_good x hx in
              let k = m.is_block (b x).author in
              let same =
              sound'.made_alone x (name_of (made_of (b x).author (suc r) parents)) hx (m.go (b x).author g (l.rounds (b x).author g)).1
              (sym (ap (λ z. z.author) k)) (rx ∙ sym (ap (λ z. z.round) k)) in
              ap (λ z. (b z).parents) same ∙ ap (λ z. z.parents) k

          -- a block of the round before is in the row
          in_row : (y : ℕ) → In y made → (b y).round ≡ r → In y blocks.blocks
          in_row y hy ry =
              let g = sound'.made_good y hy in
              let s = blocks.complete (b y).author (good_member f bad (b y).author g) g in
              let same =
              sound'.made_alone s.0 y ((after_grown m.way).made s.0 (blocks.is_made s.0 s.1)) hy s.2
              (blocks.at_round s.0 s.1 ∙ sym ry) in
              subst (λ z. In z blocks.blocks) same s.1

          linked : Linked f b bad r es'
          linked x y hx rx hy ry = subst (In y) (sym (parents-of x hx rx)) (in_union_right y (e ∷ []) blocks.blocks (in_row y hy ry))

          reaches : (x : ℕ) → In x made → (b x).round ≡ suc r → Within (e ∷ gathered) (reached b x)
          reaches x hx rx z hz =
              let i = (b x).author in
              let g = sound'.made_good x hx in
              let web = web_sound f b bad few es' i g in
              let hw = m.have x hx i g in
              let s = blocks.complete i (good_member f bad i g) g in
              let parent : (y : ℕ) → In y parents → In y (reached b x) =
              λ y h. reached_parents web x x y hw (reached_self b x) (subst (In y) (sym (parents-of x hx rx)) h) in
              ⊎_elim (λ q. subst (λ y. In y (reached b x)) (sym q) (parent e (in_union_left e (e ∷ []) blocks.blocks (in_here e []))))
              (λ h.
              reached_through web x s.0 z hw (parent s.0 (in_union_right s.0 (e ∷ []) blocks.blocks s.1))
              (l.reaches s.0 (blocks.is_made s.0 s.1) (blocks.at_round s.0 s.1) z h))
              (in_cons z e gathered hz)

  -- fewer blocks are gathered, too
  fewer : (r : ℕ) (gathered less : List ℕ) (es : List Event) → Within less gathered → Level f b bad r gathered es → Level f b bad r less es
  fewer r gathered less es h l = record { have = l.have; rounds = l.rounds; reaches = λ x hx rx z hz. l.reaches x hx rx z (h z hz) }

  -- gathering a list of blocks, one in each round
  gather :
      (xs : List ℕ) (r : ℕ) (gathered : List ℕ) (es : List Event) → Level f b bad r gathered es → Within xs (world f b bad es).made →
      ((x : ℕ) → In x xs → (b x).round ≤ r) →
      (es' : List Event) × (r' : ℕ) × (all : List ℕ) × After f b bad es es' × Level f b bad r' all es' × Within xs all × Within gathered all
  gather [] r gathered es l made early = (es, r, gathered, after_none f b bad es, l, (λ x t. absurd (in_none x t)), λ x t. t)
  gather (x ∷ xs) r gathered es l made early =
      let one = next_level r gathered es l x (made x (in_here x xs)) (early x (in_here x xs)) in
      let rest =
      gather xs (suc r) (x ∷ gathered) one.0 one.2 (λ y t. (after_grown one.1).made y (made y (in_there y x xs t)))
      (λ y t. let q = early y (in_there y x xs t) in omega arith) in (
        rest.0,
        rest.1,
        rest.2,
        after_then one.1 rest.3,
        rest.4,
        (λ y t. ⊎_elim (λ q. rest.6 y (subst (λ z. In y (z ∷ gathered)) q (in_here y gathered))) (λ h. rest.5 y h) (in_cons y x xs t)),
        λ y t. rest.6 y (in_there y x gathered t),
      )

  -- one round on, gathering nothing new
  go_on :
      (r : ℕ) (gathered : List ℕ) (es : List Event) → Level f b bad r gathered es →
      (es' : List Event) × After f b bad es es' × Level f b bad (suc r) gathered es' × Linked f b bad r es'
  go_on r gathered es l =
      let g = some_good (today f) bad few in
      let gi = and_both (ltb g.0 (members f)) (not (bad g.0)) (lt→ltb g.0 (members f) g.1) g.2 in
      let own = (always_sound f b bad es).made_all g.0 r gi (let q = l.rounds g.0 gi in omega arith) in
      let next = next_level r gathered es l own.0 own.1 (let q = own.3 in omega arith) in
      (next.0, next.1, fewer (suc r) (own.0 ∷ gathered) gathered next.0 (λ y t. in_there y own.0 gathered t) next.2, next.3)

  -- to any later round
  go_to :
      (steps r end : ℕ) (gathered : List ℕ) (es : List Event) → end ≡ r + steps → Level f b bad r gathered es →
      (es' : List Event) × After f b bad es es' × Level f b bad end gathered es'
  go_to zero r end gathered es e l = (es, after_none f b bad es, subst (λ k. Level f b bad k gathered es) (omega arith) l)
  go_to (suc n) r end gathered es e l =
      let one = go_on r gathered es l in
      let rest = go_to n (suc r) end gathered one.0 (omega arith) one.2 in
      (rest.0, after_then one.1 rest.1, rest.2)

  -- ---- a good leader's block brings all that it reaches into every good order
  ordered :
      (k : ℕ) (gathered : List ℕ) (es es' : List Event) → T (good f bad (leader f (2 * k))) → Level f b bad (2 * k) gathered es → After f b bad es es' →
      Level f b bad (suc (2 * k)) gathered es' → Linked f b bad (2 * k) es' → (i : ℕ) → T (good f bad i) → Within gathered (order_of f b bad i es')
  ordered k gathered es es' leads l way l' linked i g y hy =
      let r = 2 * k in
      let sound' = always_sound f b bad es' in
      let made = (world f b bad es').made in
      let own = (always_sound f b bad es).made_all (leader f r) r leads (let q = l.rounds (leader f r) leads in omega arith) in
      let x = own.0 in
      let hx = (after_grown way).made x own.1 in
      let web = web_sound f b bad few es' i g in
      let found = leader_block_found web r x (l'.have x hx i g) own.3 own.2 in
      let authors = authors_at f b (suc r) made in
      let votes =
      votes_of_authors b x (web_of f b bad i es') authors
      (λ a t.
      let s = authors_in f b (suc r) made a t in
      let at : (b s.0).round ≡ (b x).round + 1 = let p = s.2 in let q = own.3 in omega arith in
      (s.0, l'.have s.0 s.1 i g, s.3, at, linked s.0 x s.1 s.2 hx own.3)) in
      let enough =
      good_have_votes (today f) (votes_few f) bad few authors
      (λ j h n.
      let gj = and_both (ltb j (members f)) (not (bad j)) (lt→ltb j (members f) h) n in
      let s = sound'.made_all j (suc r) gj (let q = l'.rounds j gj in omega arith) in
      subst (λ a. In a authors) s.2
      (in_authors f b (suc r) made s.0 s.1 s.3 (subst (λ a. a < members f) (sym s.2) h))) in
      anchor_listed web x y (voted_is_anchor web k x found (omega arith)) (l.reaches x own.1 own.3 y hy)

  -- all good members at one level, from any state
  levelled : (es : List Event) → (es' : List Event) × (r : ℕ) × After f b bad es es' × Level f b bad r [] es'
  levelled es =
      let s = spread f b bad few es in
      let bound = bounded f b bad s.then (members f) in
      let top = suc bound.0 in
      let up =
      climb top 0 top s.then (omega arith)
      (record {
        have = s.holds;
        low = λ i g. omega arith;
        high = λ i g. let q = bound.1 i (good_member f bad i g) in omega arith;
      }) in
      let c = up.2 in (
        up.0,
        bound.0,
        after_then s.quiet.way up.1,
        record {
          have = c.have;
          rounds = λ i g. let low = c.low i g in let high = c.high i g in omega arith;
          reaches = λ x hx rx z hz. absurd (in_none z hz);
        },
      )

  -- steps that bring the made blocks into all good orders are what is asked for
  WayOut : List Event → Type 0
  WayOut es =
      (es' : List Event) × After f b bad es es' × ((i : ℕ) → T (good f bad i) → Within (world f b bad es).made (order_of f b bad i es'))

  -- the round of a good leader that comes after round r
  leaders_round : (r : ℕ) → (k : ℕ) × (r ≤ 2 * k) × T (good f bad (leader f (2 * k)))
  leaders_round r =
      let g = some_good (today f) bad few in
      let n = members f in
      let k = n * r + g.0 in
      let late : r ≤ n * r = rw (mul_comm n r) (le-mul_of_pos_right r (member_some (today f))) in
      let half : (2 * k) / 2 ≡ k = omega arith in
      let turn : leader f (2 * k) ≡ g.0 = ap (λ q. q % n) half ∙ (mul-add-mod_self_left n r g.0 ∙ mod-eq_of_lt g.1) in
      (k, omega arith, subst (λ i. T (good f bad i)) (sym turn) (and_both (ltb g.0 n) (not (bad g.0)) (lt→ltb g.0 n g.1) g.2))

  -- from a level that has gathered what was made, on to a good leader's round and one more
  from_gathered :
      (es es' : List Event) (r : ℕ) (all : List ℕ) → After f b bad es es' → Level f b bad r all es' → Within (world f b bad es).made all → WayOut es
  unfolding WayOut
  from_gathered es es' r all way l made =
      let turn = leaders_round r in
      let k = turn.0 in
      let late = turn.1 in
      let at = go_to (2 * k - r) r (2 * k) all es' (omega arith) l in
      let last = go_on (2 * k) all at.0 at.2 in (
        last.0,
        after_then way (after_then at.1 last.1),
        λ i g y t. ordered k all at.0 last.0 turn.2 at.2 last.1 last.2 last.3 i g y (made y t),
      )

  from_level : (es es' : List Event) (r : ℕ) → After f b bad es es' → Level f b bad r [] es' → WayOut es
  from_level es es' r way l =
      let sound = always_sound f b bad es' in
      let all =
      gather (world f b bad es).made r [] es' l (λ x t. (after_grown way).made x t)
      (λ x t.
      let hx = (after_grown way).made x t in
      let below = sound.made_round x hx in
      let at = l.rounds (b x).author (sound.made_good x hx) in
      omega arith) in
      from_gathered es all.0 all.1 all.2 (after_then way all.3) all.4 all.5

  way_out : (es : List Event) → WayOut es
  way_out es = let up = levelled es in from_level es up.0 up.1 up.2 up.3

  as_steps :
      (es : List Event) → WayOut es →
      (ds : List Event) × T (by_good f b bad ds) × ((i : ℕ) → T (good f bad i) → T (all_in (world f b bad es).made (order_of f b bad i (ds ++ es))))
  unfolding WayOut
  as_steps es (es', way, brings) = (
    way.steps,
    way.by_good_lem,
    λ i g.
        subst (λ l. T (all_in (world f b bad es).made (order_of f b bad i l))) (sym way.leads)
        (all_in_lem (world f b bad es).made (order_of f b bad i es') (brings i g)),
  )

pub no_dead_end : NoDeadEnd
no_dead_end f small b name_of named bad few es = as_steps f small b name_of named bad few es (way_out f small b name_of named bad few es)
