-- The answers of a seat, one member's program, which has bounded room; what it asks of the web that it reads its order off. Assumes nothing.
use Rattle.std.specs.Prelude.{Bool, true, cond, ◌&&◌, not, List, [], ◌∷◌, ℕ, zero, suc, ◌^◌, ◌==◌, nat_le, length}
use Rattle.model.specs.Blocks.{Book, valid}
use Rattle.model.specs.Member.{Member, rival, signable, takable, makable}

-- a seat has room for so many names in its web, and as many that it signed
abbrev pub seat_limit : ℕ
seat_limit = 4096

-- no block is made for this round or a later one
abbrev pub round_limit : ℕ
round_limit = 2 ^ 20

abbrev pub full_signed : Member → Bool
full_signed m = nat_le seat_limit (length m.signed)

abbrev pub full_web : Member → Bool
full_web m = nat_le seat_limit (length m.web)

abbrev pub full_round : Member → Bool
full_round m = nat_le round_limit m.round

-- the answers to sign, take and make
abbrev pub done : ℕ
done = 0

abbrev pub may_not : ℕ
may_not = 1

abbrev pub no_room : ℕ
no_room = 2

-- that it may not is looked for before that there is no room
abbrev pub answer : Bool → Bool → ℕ
answer may full = cond may (cond full no_room done) may_not

-- the answers to the three calls
abbrev pub sign_answer : ℕ → Book → Bool → ℕ → Member → ℕ
sign_answer f b genuine x m = answer (signable f b genuine x m) (full_signed m)

abbrev pub take_answer : Book → Bool → ℕ → Member → ℕ
take_answer b certified x m = answer (takable b certified x m) (full_web m)

abbrev pub make_answer : ℕ → Book → ℕ → ℕ → Member → ℕ
make_answer f b i x m = answer (makable f b i x m) (full_round m)

-- what isn't answered by `done` changes nothing
abbrev pub after : ℕ → Member → Member → Member
after given new old = cond (given == done) new old

-- what reading the order asks of a web, besides that it is whole: valid blocks, and no two of one author and round. Every good member's web is so.
unfoldable pub fit : ℕ → Book → List ℕ → Bool
fit f b [] = true
fit f b (x ∷ xs) = valid f b (b x) && not (rival b x xs) && fit f b xs

-- a list at the front of n places, noughts behind it
unfoldable pub padded : ℕ → List ℕ → List ℕ
padded zero xs = []
padded (suc n) [] = 0 ∷ padded n []
padded (suc n) (x ∷ xs) = x ∷ padded n xs
