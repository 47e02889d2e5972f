-- That a committee holds the world of what a script has said. Assumes nothing.
use Rattle.std.specs.Prelude.{◌≡◌, ℕ, ◌<◌, Bool, false, cond, List, length, Some, None, Option}
use Rattle.book.specs.Memory.{Lent, HasRoom}
use Rattle.book.specs.Meeting.{block_of, Acceptable, Absent, Met}
use Rattle.model.specs.Blocks.{Block}
use Rattle.model.specs.Seat.{round_limit}
use Rattle.rehearsal.specs.declared.act.Act.{Act}
use Rattle.rehearsal.specs.declared.committee.Committee.{Committee}
use Rattle.rehearsal.specs.Held.{Parts, HoldWorld}
use Rattle.rehearsal.specs.Words.{name_in, names_in}
use Rattle.rehearsal.specs.Scenes.{Scene, event_of, may_happen, with_event, may_be_bad, with_bad, with_blocks, with_word}

abbrev pub parts : Committee → Parts
parts c = record { faults = c.faults; book = c.book; bad = c.bad; seats = c.seats; notes = c.notes; words = c.words }

-- THE COMMITTEE HOLDS THE WORLD of the script's events.
abbrev pub Plays : Scene → Committee → Type 0
Plays s c = HoldWorld s (parts c)

-- the block is too large for a book, or one of its parents isn't there, or there is no room for it
abbrev pub CantBeIn : Lent → List Block → Block → Type 0
CantBeIn l ks k = Acceptable ks k → Absent ks k × (HasRoom l ks (length k.parents) (length k.load) → ⊥)

-- Member i was to do this with block x: it is said whether it was done, which it was if it may happen; then it is the latest event, and else
-- the committee holds what it held.
pub record Acted (s : Scene) (act : Act) (i x : ℕ) (said : Bool) (c : Committee) : Type 0 where
  pub right : said ≡ may_happen s act i x
  pub after : Plays (cond said (with_event (event_of act i x) s) s) c

-- the same with the block that a word stands for, if it stands for one: else it isn't done
abbrev pub Stepped : Scene → Act → ℕ → Option ℕ → Bool → Committee → Type 0
Stepped s act i None said c = (said ≡ false) × Plays s c
Stepped s act i (Some x) said c = Acted s act i x said c

-- Member i was said to be bad: it is said whether it may be, and then it is; else the committee holds what it held.
pub record SaidBad (s : Scene) (i : ℕ) (said : Bool) (c : Committee) : Type 0 where
  pub right : said ≡ may_be_bad s i
  pub after : Plays (cond said (with_bad i s) s) c

-- A block was met: the book gave it a name, and has it now under that name; or the block can't be in the book, and the committee holds what it held.
abbrev pub Meets : Lent → Scene → Block → Option ℕ → Committee → Type 0
Meets l s k (Some x) c = (ks : List Block) × Met l s.blocks k x ks × Plays (with_blocks ks s) c
Meets l s k None c = CantBeIn l s.blocks k × Plays s c

-- authors and rounds of a script's blocks are below these
abbrev pub author_limit : ℕ
author_limit = 256

-- the word isn't in use, the author and the round aren't too large, and the parents' words stand for these blocks
pub record CanBeNamed (s : Scene) (word : List ℕ) (author round : ℕ) (parents : List (List ℕ)) (names : List ℕ) : Type 0 where
  pub unused : name_in word s.words ≡ None
  pub author_small : author < author_limit
  pub round_small : round < round_limit
  pub parents_are : names_in parents s.words ≡ Some names

-- A word was given to a block: it stands for the block from now on, under the name that the book gave; or it is said that it can't be given,
-- and the committee holds what it held.
abbrev pub Named : Lent → Scene → List ℕ → ℕ → ℕ → List ℕ → List (List ℕ) → Option ℕ → Committee → Type 0
Named l s word author round load parents (Some x) c =
    (names : List ℕ) × CanBeNamed s word author round parents names ×
    (ks : List Block) × Met l s.blocks (block_of author round names load) x ks × Plays (with_word word x (with_blocks ks s)) c
Named l s word author round load parents None c =
    ((names : List ℕ) → CanBeNamed s word author round parents names → CantBeIn l s.blocks (block_of author round names load)) × Plays s c
