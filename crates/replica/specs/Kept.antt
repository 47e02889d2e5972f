-- What a seat's web keeps: all that reading an order off it asks. Stated over the steps of a seat, and over whole runs of calls. Assumes nothing.
use Rattle.std.specs.Prelude.{◌≡◌, ℕ, Bool, T}
use Rattle.model.specs.Names.{is_in}
use Rattle.model.specs.Blocks.{Book, valid}
use Rattle.model.specs.Member.{Member, new_member, signable, takable, makable, after_sign, after_take, after_make}
use Rattle.model.specs.Seat.{answer, after, full_signed, full_web, full_round}
use Rattle.model.specs.Reading.{Readable}

-- the member's web is as reading the order asks: each name once, with all that is reached from it, valid blocks of which no two are of one author
-- and round, and no more than a seat has room for
abbrev pub Kept : ℕ → Book → Member → Type 0
Kept f b m = Readable f b m.web

-- the second book says of what the member has taken in what the first one says: so it is where a book only grows
abbrev pub SameOf : Book → Book → Member → Type 0
SameOf b b' m = (x : ℕ) → T (is_in x m.web) → b' x ≡ b x

-- the calls that change a seat
pub data Call : Type 0 where
  Sign : ℕ → Bool → Call
  Take : ℕ → Bool → Call
  Make : ℕ → Call

-- what member i holds after a call, by the book of that moment
abbrev pub called : ℕ → ℕ → Book → Call → Member → Member
called f i b (Sign x genuine) m = after (answer (signable f b genuine x m) (full_signed m)) (after_sign x m) m
called f i b (Take x certified) m = after (answer (takable b certified x m) (full_web m)) (after_take x m) m
called f i b (Make x) m = after (answer (makable f b i x m) (full_round m)) (after_make m) m

-- a block that is said to be certified is valid: a quorum signed it, and good members sign valid blocks only
abbrev pub Certifies : ℕ → Book → Call → Type 0
Certifies f b (Sign x genuine) = Unit {0}
Certifies f b (Take x certified) = T certified → T (valid f b (b x))
Certifies f b (Make x) = Unit {0}

-- Runs of calls of member i's seat from fresh on, as the book goes by: what the member holds at the end.
pub data Run (f i : ℕ) : Book → Member → Type 0 where
  fresh : (b : Book) → Run f i b new_member
  call : (b : Book) (m : Member) (c : Call) → Certifies f b c → Run f i b m → Run f i b (called f i b c m)
  grow : (b b' : Book) (m : Member) → SameOf b b' m → Run f i b m → Run f i b' m

-- After every run the web is as reading the order asks; and step by step, for callers that keep it in an invariant of their own.
pub record WebsStayFit : Type 0 where
  pub runs : (f i : ℕ) (b : Book) (m : Member) → Run f i b m → Kept f b m
  pub new : (f : ℕ) (b : Book) → Kept f b new_member
  pub step : (f i : ℕ) (b : Book) (c : Call) (m : Member) → Certifies f b c → Kept f b m → Kept f b (called f i b c m)
  pub grown : (f : ℕ) (b b' : Book) (m : Member) → SameOf b b' m → Kept f b m → Kept f b' m
