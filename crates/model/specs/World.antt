-- A committee: its members, all signatures ever given, and events that come in any order, since the line between members brings anything,
-- any time, twice, late or never. What may not happen changes nothing, so every list of events is a run. Assumes nothing.
use Rattle.std.specs.Prelude.{Bool, cond, ◌&&◌, ◌||◌, not, List, [], ◌∷◌, ℕ, zero, suc, ◌==◌, nat_lt, nat_le, get_or, set}
use Rattle.model.specs.Names.{is_in, different}
use Rattle.model.specs.Thresholds.{members, quorum}
use Rattle.model.specs.Blocks.{Book}
use Rattle.model.specs.Order.{order}
use Rattle.model.specs.Member.{Member, new_member, signable, takable, makable, after_sign, after_take, after_make}

-- member who has signed the block of that name
pub record Signature : Type 0 where
  pub who : ℕ
  pub name : ℕ

-- all: what each member holds (of a bad one nothing is said here); made: the blocks that good members made, each by its own author, since a
-- member makes only blocks in its own name; signatures: all that were ever given, by anyone
pub record World : Type 0 where
  pub all : List Member
  pub made : List ℕ
  pub signatures : List Signature

unfoldable pub new_members : ℕ → List Member
new_members zero = []
new_members (suc n) = new_member ∷ new_members n

abbrev pub start : ℕ → World
start f = record { all = new_members (members f); made = []; signatures = [] }

abbrev pub member_at : ℕ → World → Member
member_at i w = get_or w.all i new_member

-- a good member: one of the committee that isn't bad
abbrev pub good : ℕ → (ℕ → Bool) → ℕ → Bool
good f bad i = nat_lt i (members f) && not (bad i)

-- who signed x
unfoldable pub signers : ℕ → List Signature → List ℕ
signers x [] = []
signers x (s ∷ ss) = cond (x == s.name) (s.who ∷ signers x ss) (signers x ss)

-- a block is certified when a quorum of different members has signed it
abbrev pub certified : ℕ → ℕ → World → Bool
certified f x w = nat_le (quorum f) (different (signers x w.signatures))

-- a block is really made by its author: a good one made it, or the author is bad, whose blocks all count as made
abbrev pub genuine : Book → (ℕ → Bool) → ℕ → World → Bool
genuine b bad x w = bad (b x).author || is_in x w.made

-- Makes i x: good member i makes the block x. Signs i x: it signs x. Takes i x: it takes x in. Forges i x: bad member i signs x, whatever x is
pub data Event : Type 0 where
  Makes : ℕ → ℕ → Event
  Signs : ℕ → ℕ → Event
  Takes : ℕ → ℕ → Event
  Forges : ℕ → ℕ → Event

-- the world in which member i holds m
abbrev pub with_member : ℕ → Member → World → World
with_member i m w = record { all = set w.all i m; made = w.made; signatures = w.signatures }

abbrev pub with_signature : ℕ → ℕ → World → World
with_signature i x w = record { all = w.all; made = w.made; signatures = record { who = i; name = x } ∷ w.signatures }

abbrev pub with_made : ℕ → World → World
with_made x w = record { all = w.all; made = x ∷ w.made; signatures = w.signatures }

-- a good member does what it may; a bad one signs anything in its own name
abbrev pub step : ℕ → Book → (ℕ → Bool) → Event → World → World
step f b bad (Makes i x) w =
    let m = member_at i w in
    cond (good f bad i && makable f b i x m) (with_made x (with_member i (after_make m) w)) w
step f b bad (Signs i x) w =
    let m = member_at i w in
    cond (good f bad i && signable f b (genuine b bad x w) x m) (with_signature i x (with_member i (after_sign x m) w)) w
step f b bad (Takes i x) w =
    let m = member_at i w in
    cond (good f bad i && takable b (certified f x w) x m) (with_member i (after_take x m) w) w
step f b bad (Forges i x) w = cond (nat_lt i (members f) && bad i) (with_signature i x w) w

-- the world after a list of events, the latest first
unfoldable pub world : ℕ → Book → (ℕ → Bool) → List Event → World
world f b bad [] = start f
world f b bad (e ∷ es) = step f b bad e (world f b bad es)

-- what member i has taken in, and the order that it reads off it, after the events
abbrev pub web_of : ℕ → Book → (ℕ → Bool) → ℕ → List Event → List ℕ
web_of f b bad i es = (member_at i (world f b bad es)).web

abbrev pub order_of : ℕ → Book → (ℕ → Bool) → ℕ → List Event → List ℕ
order_of f b bad i es = order f b (web_of f b bad i es)
