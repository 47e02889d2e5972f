-- What a line of a script does, and what is printed after it. Assumes nothing.
use Rattle.std.specs.Prelude.{◌≡◌, ℕ, Bool, true, false, cond, ◌&&◌, ◌⊎◌, List, [], map, length, is_some, Some, None, vec_items, codes, Option, ◌==◌}
use Rattle.book.specs.Memory.{Lent}
use Rattle.book.specs.Meeting.{block_of}
use Rattle.lines.specs.Hex.{Spells}
use Rattle.lines.specs.Words.{words_of, joined}
use Rattle.rehearsal.specs.declared.committee.Committee.{Committee}
use Rattle.rehearsal.specs.declared.script.Reply.{Reply}
use Rattle.rehearsal.specs.declared.script.Reply.TheVariants.{Nothing, No, Line}
use Rattle.rehearsal.specs.Words.{name_in, text_for}
use Rattle.rehearsal.specs.Saying.{Said, Block, Step, Bad, Order, Described, Says}
use Rattle.rehearsal.specs.Scenes.{Scene, may_be_bad, with_bad}
use Rattle.rehearsal.specs.Played.{Plays, Stepped, Named, CanBeNamed, CantBeIn}
use Rattle.rehearsal.specs.Ordering.{OrderIs}

-- the word is a load: `-` for none, or hexadecimal
abbrev pub LoadIs : List ℕ → List ℕ → Type 0
LoadIs word bytes = ((word ≡ codes "-") × (bytes ≡ [])) ⊎ Spells word bytes

-- nothing is printed if it was done, and `no` if not
abbrev pub yes_no : Bool → Reply
yes_no true = Nothing
yes_no false = No

-- what a line without any of the forms is answered with: nothing if it is empty
abbrev pub silent : List ℕ → Reply
silent line = cond (length line == 0) Nothing No

-- a block was described: it got its word, or it couldn't
abbrev pub Introduced : Lent → Scene → Described → Option ℕ → Committee → Type 0
Introduced l s d (Some x) c = (load : List ℕ) × LoadIs d.load load × Named l s d.word d.author d.round load d.parents (Some x) c
Introduced l s d None c =
    ((load : List ℕ) → LoadIs d.load load → (names : List ℕ) → CanBeNamed s d.word d.author d.round d.parents names →
    CantBeIn l s.blocks (block_of d.author d.round names load)) × Plays s c

-- the names of an order as they are printed: each block's first word
abbrev pub Tells : Scene → Option (List ℕ) → Reply → Type 0
Tells s None reply = reply ≡ No
Tells s (Some names) (Line line) = vec_items line ≡ joined (map (λ (x : ℕ). text_for x s.words) names)
Tells s (Some names) Nothing = ⊥
Tells s (Some names) No = ⊥

-- What was said is heeded: done if it may be, and answered.
abbrev pub Heeds : Lent → Scene → Bool → Said → Reply → Committee → Type 0
Heeds l s first (Block d) reply c = (o : Option ℕ) × (reply ≡ yes_no (is_some o)) × Introduced l s d o c
Heeds l s first (Step act i word) reply c = (done : Bool) × (reply ≡ yes_no done) × Stepped s act i (name_in word s.words) done c
Heeds l s first (Bad i) reply c = (done : Bool) × (reply ≡ yes_no done) × (done ≡ (first && may_be_bad s i)) × Plays (cond done (with_bad i s) s) c
Heeds l s first (Order i) reply c = (o : Option (List ℕ)) × OrderIs s i o × Tells s o reply × Plays s c

-- THE ANSWER TO A LINE: what it says is heeded; or it says nothing, and the committee holds what it held.
abbrev pub Responds : Lent → Scene → Bool → List ℕ → Reply → Committee → Type 0
Responds l s first line reply c =
    ((what : Said) × Says (words_of line) what × Heeds l s first what reply c) ⊎
    (((what : Said) → Says (words_of line) what → ⊥) × (reply ≡ silent line) × Plays s c)

-- whether members may still be said to be bad after this was said
abbrev pub still_opening : Bool → Said → Bool
still_opening first (Block d) = false
still_opening first (Step act i word) = false
still_opening first (Bad i) = first
still_opening first (Order i) = false

-- or after a line: one that says nothing ends the opening too, unless it is empty
abbrev pub Opens : Bool → List ℕ → Bool → Type 0
Opens first line after =
    ((what : Said) × Says (words_of line) what × (after ≡ still_opening first what)) ⊎
    (((what : Said) → Says (words_of line) what → ⊥) × (after ≡ (first && (length line == 0))))
