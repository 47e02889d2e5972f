-- What an ideal signature scheme promises: checking accepts what signing made, and what is accepted stands in the record of who signed what.
-- The first is a clause of the trait, proved of every scheme. The second no contract can give, since a signature can be guessed: `Unforged` states it
-- of the signatures met in a run, and a theorem about runs takes it as a hypothesis. It is no axiom.

use Rattle.std.specs.Prelude.{◌≡◌, ℕ, Bool, true, List, [], ◌∷◌, ◌++◌}
use Rattle.scheme.specs.Bytes.{is_in}

-- A signature as it is met: whose it is said to be, and of which message.
pub record Signed : Type 0 where
  pub member : ℕ
  pub message : List ℕ
  pub signature : List ℕ

-- Whether a member's signature of a message is right: a scheme's `right`, at the keys that a committee has.
abbrev pub Right : Type 0
Right = ℕ → List ℕ → List ℕ → Bool

-- The record of who signed what: each member's messages so far, the newest first. Of a good member, whose program has one seat, it is that seat's `said`.
abbrev pub Record : Type 0
Record = ℕ → List (List ℕ)

abbrev pub accepted : Right → Signed → Bool
accepted right s = right s.member s.message s.signature

abbrev pub stands : Record → Signed → Bool
stands said s = is_in s.message (said s.member)

-- Each of the signatures met that is accepted, as a good member's, is of a message that this member had signed.
-- Of the other members nothing is said: they may give their keys away.
unfoldable pub Unforged : Right → (ℕ → Bool) → Record → List Signed → Type 0
Unforged right good said [] = Unit {0}
Unforged right good said (s ∷ met) =
    (good s.member ≡ true → accepted right s ≡ true → stands said s ≡ true) × Unforged right good said met

-- A later record: each member has signed more, or nothing more.
abbrev pub Grows : Record → Record → Type 0
Grows before after = (m : ℕ) → (more : List (List ℕ)) × (after m ≡ more ++ before m)

-- What was unforged stays so as more is signed.
abbrev pub UnforgedStays : Type 0
UnforgedStays =
    (right : Right) (good : ℕ → Bool) (before after : Record) (met : List Signed)
    → Grows before after → Unforged right good before met → Unforged right good after met

-- It holds of two lists of signatures together where it holds of each.
abbrev pub UnforgedJoins : Type 0
UnforgedJoins =
    (right : Right) (good : ℕ → Bool) (said : Record) (some others : List Signed)
    → Unforged right good said some → Unforged right good said others → Unforged right good said (some ++ others)

-- Where just what stands in the record is accepted, the promise is kept, whatever is met. (No real scheme is like that: this one looks at no signature.)
abbrev pub IdealCanBeMet : Type 0
IdealCanBeMet =
    (good : ℕ → Bool) (said : Record) (met : List Signed) → Unforged (λ m message _. is_in message (said m)) good said met
