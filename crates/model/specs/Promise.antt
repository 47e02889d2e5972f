-- What is promised of a committee of members 0 to 3 f, of which at most f are bad, over any run of events. Each promise is a type; a proof
-- of the type is the theorem. Assumes nothing: what a promise rests on stands in it.
use Rattle.std.specs.Prelude.{◌≡◌, Bool, true, false, ◌&&◌, List, [], ◌∷◌, ◌++◌, ◌⊎◌, ℕ, ◌≤◌, T}
use Rattle.model.specs.Names.{is_in, all_in, distinct}
use Rattle.model.specs.Thresholds.{Few, max_faults}
use Rattle.model.specs.Blocks.{Block, Book, valid, within_limits}
use Rattle.model.specs.Reach.{reached}
use Rattle.model.specs.Seat.{fit}
use Rattle.model.specs.World.{Event, Makes, Signs, Takes, Forges, good, signers, certified, world, web_of, order_of}

-- A good member never signs two blocks of one author and round.
abbrev pub SignsOne : Type 0
SignsOne =
    (f : ℕ) (b : Book) (bad : ℕ → Bool) (es : List Event) (i x y : ℕ) → T (good f bad i) →
    T (is_in i (signers x (world f b bad es).signatures)) → T (is_in i (signers y (world f b bad es).signatures)) →
    (b x).author ≡ (b y).author → (b x).round ≡ (b y).round → x ≡ y

-- A good member never takes in two blocks of one author and round.
abbrev pub TakesOne : Type 0
TakesOne =
    (f : ℕ) (b : Book) (bad : ℕ → Bool) (es : List Event) (i x y : ℕ) → T (good f bad i) → T (is_in x (web_of f b bad i es)) →
    T (is_in y (web_of f b bad i es)) → (b x).author ≡ (b y).author → (b x).round ≡ (b y).round → x ≡ y

-- At most one block of an author and round is ever certified.
abbrev pub OneCertified : Type 0
OneCertified =
    (f : ℕ) (b : Book) (bad : ℕ → Bool) → Few f bad → (es : List Event) (x y : ℕ) → T (certified f x (world f b bad es)) →
    T (certified f y (world f b bad es)) → (b x).author ≡ (b y).author → (b x).round ≡ (b y).round → x ≡ y

-- all that is reached from a block of the list is in the web
unfoldable pub whole_all : Book → List ℕ → List ℕ → Bool
whole_all b web [] = true
whole_all b web (x ∷ xs) = all_in (reached b x) web && whole_all b web xs

-- What a good member has taken in, it has once, with all that is reached from it, certified and valid; so the order can be read off it.
abbrev pub WebsWhole : Type 0
WebsWhole =
    (f : ℕ) (b : Book) (bad : ℕ → Bool) → Few f bad → (es : List Event) (i : ℕ) → T (good f bad i) →
    T (distinct (web_of f b bad i es)) × T (whole_all b (web_of f b bad i es) (web_of f b bad i es)) ×
    ((x : ℕ) → T (is_in x (web_of f b bad i es)) → T (certified f x (world f b bad es)) × T (valid f b (b x))) × T (fit f b (web_of f b bad i es))

-- the first list is a beginning of the second
abbrev pub Begins : List ℕ → List ℕ → Type 0
Begins xs ys = (zs : List ℕ) × (xs ++ zs ≡ ys)

-- Of two good members' orders, at any two times, one is a beginning of the other.
abbrev pub OrdersAgree : Type 0
OrdersAgree =
    (f : ℕ) (b : Book) (bad : ℕ → Bool) → Few f bad → (next es : List Event) (i j : ℕ) → T (good f bad i) → T (good f bad j) →
    Begins (order_of f b bad i es) (order_of f b bad j (next ++ es)) ⊎ Begins (order_of f b bad j (next ++ es)) (order_of f b bad i es)

-- A good member's order only grows, whatever happens next.
abbrev pub OrdersGrow : Type 0
OrdersGrow =
    (f : ℕ) (b : Book) (bad : ℕ → Bool) → Few f bad → (next es : List Event) (i : ℕ) → T (good f bad i) →
    Begins (order_of f b bad i es) (order_of f b bad i (next ++ es))

-- Nothing stands in an order twice.
abbrev pub NothingTwice : Type 0
NothingTwice =
    (f : ℕ) (b : Book) (bad : ℕ → Bool) → Few f bad → (es : List Event) (i : ℕ) → T (good f bad i) → T (distinct (order_of f b bad i es))

-- Nothing stands in an order in a good member's name that it didn't make.
abbrev pub NothingForged : Type 0
NothingForged =
    (f : ℕ) (b : Book) (bad : ℕ → Bool) → Few f bad → (es : List Event) (i : ℕ) → T (good f bad i) →
    (x : ℕ) → T (is_in x (order_of f b bad i es)) → T (good f bad (b x).author) → T (is_in x (world f b bad es).made)

-- All that a block builds on stands before it.
abbrev pub CausesFirst : Type 0
CausesFirst =
    (f : ℕ) (b : Book) (bad : ℕ → Bool) → Few f bad → (es : List Event) (i : ℕ) → T (good f bad i) → (xs ys : List ℕ) (x y : ℕ) →
    order_of f b bad i es ≡ xs ++ (x ∷ ys) → T (is_in y (reached b x)) → (y ≡ x → ⊥) → T (is_in y xs)

-- the events are steps of good members alone, and what they make keeps to the limits of a block
unfoldable pub by_good : ℕ → Book → (ℕ → Bool) → List Event → Bool
by_good f b bad [] = true
by_good f b bad (Makes i x ∷ es) = good f bad i && within_limits (b x) && by_good f b bad es
by_good f b bad (Signs i x ∷ es) = good f bad i && by_good f b bad es
by_good f b bad (Takes i x ∷ es) = good f bad i && by_good f b bad es
by_good f b bad (Forges i x ∷ es) = false

-- No state is a dead end: whatever has happened, steps of good members alone can bring all that good members have made into every good
-- member's order. This asks that the book has a name for every block within the limits, and a committee that our programs serve, so that a block
-- can have a parent of each member and one more.
abbrev pub NoDeadEnd : Type 0
NoDeadEnd =
    (f : ℕ) → f ≤ max_faults → (b : Book) (name_of : Block → ℕ) → ((k : Block) → T (within_limits k) → b (name_of k) ≡ k) →
    (bad : ℕ → Bool) → Few f bad → (es : List Event) →
    (ds : List Event) × T (by_good f b bad ds) ×
    ((i : ℕ) → T (good f bad i) → T (all_in (world f b bad es).made (order_of f b bad i (ds ++ es))))

-- THE MAIN PROMISE. Whatever at most f of 3 f + 1 members do, and whatever the line between them does: at most one block of an author and round
-- is certified; good members' webs are whole; their orders are beginnings of one another and only grow, with nothing twice, nothing forged in
-- a good member's name, and causes first; and no state is a dead end.
pub record MainPromise : Type 0 where
  pub signs_one : SignsOne
  pub takes_one : TakesOne
  pub one_certified : OneCertified
  pub webs_whole : WebsWhole
  pub orders_agree : OrdersAgree
  pub orders_grow : OrdersGrow
  pub nothing_twice : NothingTwice
  pub nothing_forged : NothingForged
  pub causes_first : CausesFirst
  pub no_dead_end : NoDeadEnd
