-- Small cases, computed. In all but the last f = 1, members 0 to 3, a block's name is 4 times its round and its author, and a block has all blocks
-- of the round before as parents unless said otherwise. Assumes nothing.
use Rattle.std.specs.Prelude.{◌≡◌, true, false, cond, ◌||◌, List, [], ◌∷◌, ◌++◌, ℕ, zero, suc, ◌+◌, ◌-◌, ◌*◌, ◌/◌, ◌%◌, ◌==◌, nat_lt}
use Rattle.model.specs.Blocks.{Block, Book, valid}
use Rattle.model.specs.Order.{anchors_of, order}
use Rattle.model.specs.Member.{Member, after_sign}
use Rattle.model.specs.Seat.{done, may_not, no_room, sign_answer, after, seat_limit}

-- the names of the four blocks of a round
abbrev pub whole_round : ℕ → List ℕ
whole_round r = (4 * r) ∷ (4 * r + 1) ∷ (4 * r + 2) ∷ (4 * r + 3) ∷ []

-- the block of that name, with these parents unless its round is 0
abbrev pub block : ℕ → List ℕ → Block
block x parents = record { author = x % 4; round = x / 4; parents = cond (nat_lt x 4) [] parents; load = [] }

-- every block has all of the round before as parents
abbrev pub all_parents : Book
all_parents x = block x (whole_round (x / 4 - 1))

-- the web of round 0 whole and three blocks of round 1
abbrev pub three_of_round1 : List ℕ
three_of_round1 = 4 ∷ 5 ∷ 6 ∷ whole_round 0

-- The leader's block 0.0 has three votes, so it is an anchor.
abbrev pub VotedLeaderIsOrdered : Type 0
VotedLeaderIsOrdered = order 1 all_parents three_of_round1 ≡ 0 ∷ []

-- of round 1 only 2.1 has 0.0 as a parent; round 2 has the three blocks 0.1, 1.1 and 2.1 as parents
abbrev pub one_voter : Book
one_voter x =
    cond (x == 4 || x == 5 || x == 7) (block x (1 ∷ 2 ∷ 3 ∷ []))
    (cond (x / 4 == 2) (block x (4 ∷ 5 ∷ 6 ∷ [])) (all_parents x))

-- The same web, but with one vote for 0.0, where two are needed: nothing is ordered.
abbrev pub OneVoteOrdersNothing : Type 0
OneVoteOrdersNothing = order 1 one_voter three_of_round1 ≡ []

-- that web, and rounds 2 and 3 whole
abbrev pub rounds_to3 : List ℕ
rounds_to3 = whole_round 3 ++ (whole_round 2 ++ three_of_round1)

-- Then 1.2 has the votes and reaches 0.0 by 2.1, so 0.0 is an anchor too, though it had too few votes, and stands
-- alone in front.
abbrev pub LaterAnchorBringsUnvotedLeader : Type 0
LaterAnchorBringsUnvotedLeader =
    (anchors_of 1 one_voter rounds_to3 ≡ 0 ∷ 9 ∷ []) × (order 1 one_voter rounds_to3 ≡ 0 ∷ 1 ∷ 2 ∷ 3 ∷ 4 ∷ 5 ∷ 6 ∷ 9 ∷ [])

-- all four blocks of round 1 are there, and 1.2 has as parents just the three without 0.0
abbrev pub leader_unreached : Book
leader_unreached x = cond (x == 9) (block 9 (4 ∷ 5 ∷ 7 ∷ [])) (cond (x / 4 == 2) (block x (whole_round 1)) (one_voter x))

-- the first four rounds whole
abbrev pub all_to3 : List ℕ
all_to3 = whole_round 3 ++ (whole_round 2 ++ (whole_round 1 ++ whole_round 0))

-- So 1.2, which has the votes, doesn't reach 0.0: that isn't an anchor, and isn't listed.
abbrev pub UnreachedLeaderIsLeftOut : Type 0
UnreachedLeaderIsLeftOut =
    (anchors_of 1 leader_unreached all_to3 ≡ 9 ∷ []) × (order 1 leader_unreached all_to3 ≡ 1 ∷ 2 ∷ 3 ∷ 4 ∷ 5 ∷ 7 ∷ 9 ∷ [])

-- the block 1.5 and another of author 1 and round 5
abbrev pub first : ℕ
first = 21

abbrev pub other : ℕ
other = 1000

abbrev pub with_other : Book
with_other x = cond (x == other) (record { author = 1; round = 5; parents = whole_round 4; load = 1 ∷ [] }) (all_parents x)

-- a member that has signed these
abbrev pub having_signed : List ℕ → Member
having_signed names = record { web = []; signed = names; round = 0 }

-- so many names of blocks of other rounds, from 2000 on
unfoldable pub others : ℕ → List ℕ
others zero = []
others (suc n) = (2000 + n) ∷ others n

-- the answer to signing 1.5
abbrev pub sign_first : Member → ℕ
sign_first m = sign_answer 1 with_other true first m

-- Signing 1.5 the first time: 0, and it is signed. When its rival is signed: 1, also if 4,096 are signed. When it is signed itself: 0, and nothing
-- changes; but 2 if 4,096 are signed, and nothing changes.
pub record SignedOnceRivalNever : Type 0 where
  pub rival_refused : sign_first (having_signed (other ∷ [])) ≡ may_not
  pub full_rival_refused : sign_first (having_signed (other ∷ others (seat_limit - 1))) ≡ may_not
  pub signed_now : after (sign_first (having_signed [])) (after_sign first (having_signed [])) (having_signed []) ≡ having_signed (first ∷ [])
  pub again_done : sign_first (having_signed (first ∷ [])) ≡ done
  pub again_same : after_sign first (having_signed (first ∷ [])) ≡ having_signed (first ∷ [])
  pub full_refused : sign_first (having_signed (first ∷ others (seat_limit - 1))) ≡ no_room
  pub full_same :
      (m : Member) → after (sign_first (having_signed (first ∷ others (seat_limit - 1)))) (after_sign first m) m ≡ m

-- a block of round 2 with these parents
abbrev pub on_parents : List ℕ → Block
on_parents parents = record { author = 0; round = 2; parents = parents; load = [] }

-- two blocks of author 1 and round 1 (0.1 and 2.1 are 4 and 6; 5 is 1.1 and 1001 another one)
abbrev pub with_twin : Book
with_twin x = cond (x == 1001) (record { author = 1; round = 1; parents = whole_round 0; load = 1 ∷ [] }) (all_parents x)

-- Three parents of the round before by three authors make a valid block; by two authors they don't, nor do two authors and an older block; nor
-- has a block a parent twice, or one of its own round.
pub record ParentsByDifferentAuthors : Type 0 where
  pub three_authors : valid 1 with_twin (on_parents (4 ∷ 5 ∷ 6 ∷ [])) ≡ true
  pub two_authors : valid 1 with_twin (on_parents (4 ∷ 5 ∷ 1001 ∷ [])) ≡ false
  pub an_older_block : valid 1 with_twin (on_parents (4 ∷ 5 ∷ 2 ∷ [])) ≡ false
  pub an_older_block_more : valid 1 with_twin (on_parents (4 ∷ 5 ∷ 6 ∷ 2 ∷ [])) ≡ true
  pub a_parent_twice : valid 1 with_twin (on_parents (4 ∷ 5 ∷ 6 ∷ 6 ∷ [])) ≡ false
  pub own_round : valid 1 with_twin (on_parents (4 ∷ 5 ∷ 6 ∷ 8 ∷ [])) ≡ false
  pub round_0_with_parent : valid 1 with_twin (record { author = 0; round = 0; parents = 1 ∷ []; load = [] }) ≡ false
  pub no_member : valid 1 with_twin (record { author = 4; round = 0; parents = []; load = [] }) ≡ false

-- one member, its blocks one after the other; a block's name is its round
abbrev pub chain : Book
chain x = record { author = 0; round = x; parents = cond (x == 0) [] ((x - 1) ∷ []); load = [] }

-- the web of the blocks 0 to n, the latest first
unfoldable pub chain_to : ℕ → List ℕ
chain_to zero = 0 ∷ []
chain_to (suc n) = suc n ∷ chain_to n

-- the first k even numbers
unfoldable pub evens : ℕ → List ℕ
evens zero = []
evens (suc k) = evens k ++ (2 * k ∷ [])

-- the first k numbers
unfoldable pub up_to : ℕ → List ℕ
up_to zero = []
up_to (suc k) = up_to k ++ (k ∷ [])

-- One member alone, f = 0: after its blocks 0 to n the anchors are all its even blocks below n, so each is one as soon as the next block is
-- taken in; and all up to the last anchor is ordered.
pub record OneMemberAlone : Type 0 where
  pub anchors : (n : ℕ) → anchors_of 0 chain (chain_to n) ≡ evens ((n + 1) / 2)
  pub ordered : (n : ℕ) → order 0 chain (chain_to n) ≡ up_to (2 * ((n + 1) / 2) - 1)

pub record AllCases : Type 0 where
  pub voted_leader_is_ordered : VotedLeaderIsOrdered
  pub one_vote_orders_nothing : OneVoteOrdersNothing
  pub later_anchor_brings_unvoted_leader : LaterAnchorBringsUnvotedLeader
  pub unreached_leader_is_left_out : UnreachedLeaderIsLeftOut
  pub signed_once_rival_never : SignedOnceRivalNever
  pub parents_by_different_authors : ParentsByDifferentAuthors
  pub one_member_alone : OneMemberAlone
