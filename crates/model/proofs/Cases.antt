-- The small cases hold: all are computed but the lone member's, which is proofs/Chain.antt's.
-- Assumes nothing.
use mathlib.Core.Path.{◌≡◌, refl, ap}
use mathlib.Core.List.{[], ◌∷◌}
use Prim.Native.Nat.{◌-◌}
use Rattle.model.specs.Names.{is_in, distinct, different, union, without}
use Rattle.model.specs.Thresholds.{members, quorum, needed_votes}
use Rattle.model.specs.Blocks.{authors_at, all_earlier, valid}
use Rattle.model.specs.Reach.{parents_of, back, reached}
use Rattle.model.specs.Order.{leader_block, votes_for, last_voted, last_round, anchors_to, anchors_of, insert, sorted, listed, order}
use Rattle.model.specs.Member.{rival, after_sign}
use Rattle.model.specs.Seat.{done, may_not, no_room, after, seat_limit}
use Rattle.model.specs.Cases.{VotedLeaderIsOrdered, OneVoteOrdersNothing, LaterAnchorBringsUnvotedLeader, UnreachedLeaderIsLeftOut}
use Rattle.model.specs.Cases.{SignedOnceRivalNever, ParentsByDifferentAuthors, AllCases, first, other, having_signed, others, sign_first}
use Rattle.model.proofs.Chain.{one_member_alone}

-- Lists of definitions to open, each written once: a proof that names `reading` computes an order, one that names `signing` the answer to signing.
reading : Unit {0}
unfolding is_in union without members needed_votes parents_of back reached leader_block votes_for last_voted last_round anchors_to anchors_of insert sorted
    listed order
reading = tt

signing : Unit {0}
unfolding is_in distinct different members quorum authors_at all_earlier valid rival others
signing = tt

voted_leader_is_ordered : VotedLeaderIsOrdered
unfolding reading
voted_leader_is_ordered = refl

one_vote_orders_nothing : OneVoteOrdersNothing
unfolding reading
one_vote_orders_nothing = refl

later_anchor_brings_unvoted_leader : LaterAnchorBringsUnvotedLeader
unfolding reading
later_anchor_brings_unvoted_leader = (refl, refl)

unreached_leader_is_left_out : UnreachedLeaderIsLeftOut
unfolding reading
unreached_leader_is_left_out = (refl, refl)

rival_refused : sign_first (having_signed (other ∷ [])) ≡ may_not
unfolding signing
rival_refused = refl

full_rival_refused : sign_first (having_signed (other ∷ others (seat_limit - 1))) ≡ may_not
unfolding signing
full_rival_refused = refl

signed_now : after (sign_first (having_signed [])) (after_sign first (having_signed [])) (having_signed []) ≡ having_signed (first ∷ [])
unfolding signing
signed_now = refl

again_done : sign_first (having_signed (first ∷ [])) ≡ done
unfolding signing
again_done = refl

again_same : after_sign first (having_signed (first ∷ [])) ≡ having_signed (first ∷ [])
unfolding signing
again_same = refl

-- that 4,096 names are signed is computed too
full_refused : sign_first (having_signed (first ∷ others (seat_limit - 1))) ≡ no_room
unfolding signing
full_refused = refl

signed_once_rival_never : SignedOnceRivalNever
signed_once_rival_never =
    record {
      rival_refused = rival_refused;
      full_rival_refused = full_rival_refused;
      signed_now = signed_now;
      again_done = again_done;
      again_same = again_same;
      full_refused = full_refused;
      full_same = λ m. ap (λ given. after given (after_sign first m) m) full_refused;
    }

-- THE SIX CASES hold.
parents_by_different_authors : ParentsByDifferentAuthors
unfolding signing
parents_by_different_authors = record {
  three_authors = refl;
  two_authors = refl;
  an_older_block = refl;
  an_older_block_more = refl;
  a_parent_twice = refl;
  own_round = refl;
  round_0_with_parent = refl;
  no_member = refl;
}

pub all_cases : AllCases
all_cases =
    record {
      voted_leader_is_ordered = voted_leader_is_ordered;
      one_vote_orders_nothing = one_vote_orders_nothing;
      later_anchor_brings_unvoted_leader = later_anchor_brings_unvoted_leader;
      unreached_leader_is_left_out = unreached_leader_is_left_out;
      signed_once_rival_never = signed_once_rival_never;
      parents_by_different_authors = parents_by_different_authors;
      one_member_alone = one_member_alone;
    }
