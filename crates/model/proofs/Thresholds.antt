-- The laws of thresholds: the only proofs that know how large a committee, a quorum and the needed votes are. Stated for n members, a quorum q
-- and votes v, of which at most f are bad; 3 f + 1, 2 f + 1 and f + 1 is today's instance. Assumes nothing.
use mathlib.Core.Bool.{Bool, ◌&&◌, not}
use mathlib.Core.List.{List}
use Prim.Native.Nat.{ℕ, ◌+◌, ◌≤◌, ◌<◌}
use native.Mathlib.Omega.{arith}
use lib.Dec.{T}
use Rattle.model.specs.Names.{is_in, different}
use Rattle.model.specs.Thresholds.{members, quorum, needed_votes, bad_count, Committee, Among, ThresholdsHold}
use Rattle.model.specs.Blocks.{max_parents}
use Rattle.model.proofs.Tools.{and_left, and_right}
use Rattle.model.proofs.Lists.{In}
use Rattle.model.proofs.Counting.{weigh_overlap, weigh_apart, weigh_within, weigh_some, count_all, count_bad, count≤different, different≤count}

pub today : (f : ℕ) → Committee (members f) (quorum f) (needed_votes f) f
unfolding members quorum needed_votes
today f = record { quorums_overlap = omega arith; quorum_overlaps_votes = omega arith; good_suffice = omega arith }

pub votes_few : (f : ℕ) → needed_votes f + f ≤ members f
unfolding members needed_votes
votes_few f = omega arith

module _ {n q v f : ℕ} (committee : Committee n q v f) where
  -- two quorums share a good member
  pub quorums_share_good :
      (bad : ℕ → Bool) → bad_count n bad ≤ f → (xs ys : List ℕ) → Among n xs → Among n ys → q ≤ different xs → q ≤ different ys →
      (i : ℕ) × In i xs × In i ys × T (not (bad i))
  quorums_share_good bad few xs ys bx by hx hy =
      let law = committee.quorums_overlap in
      let all = count_all n in
      let cx = different≤count n xs bx in
      let cy = different≤count n ys by in
      let both = weigh_overlap n (λ _. 1) (λ i. is_in i xs) (λ i. is_in i ys) in
      let well = weigh_overlap n (λ _. 1) (λ i. is_in i xs && is_in i ys) (λ i. not (bad i)) in
      let apart = weigh_apart n (λ _. 1) bad in
      let cb = count_bad n bad in
      let r = weigh_some n (λ _. 1) (λ i. is_in i xs && is_in i ys && not (bad i)) (omega arith) in
      let i = r.0 in
      let shared = and_left (is_in i xs && is_in i ys) (not (bad i)) r.2 in
      (i, and_left (is_in i xs) (is_in i ys) shared, and_right (is_in i xs) (is_in i ys) shared, and_right (is_in i xs && is_in i ys) (not (bad i)) r.2)

  -- a quorum and the votes share a member
  pub quorum_meets_votes : (xs ys : List ℕ) → Among n xs → Among n ys → q ≤ different xs → v ≤ different ys → (i : ℕ) × In i xs × In i ys
  quorum_meets_votes xs ys bx by hx hy =
      let law = committee.quorum_overlaps_votes in
      let all = count_all n in
      let cx = different≤count n xs bx in
      let cy = different≤count n ys by in
      let both = weigh_overlap n (λ _. 1) (λ i. is_in i xs) (λ i. is_in i ys) in
      let r = weigh_some n (λ _. 1) (λ i. is_in i xs && is_in i ys) (omega arith) in
      let i = r.0 in
      (i, and_left (is_in i xs) (is_in i ys) r.2, and_right (is_in i xs) (is_in i ys) r.2)

  -- a quorum has a good member
  pub quorum-has-good : (bad : ℕ → Bool) → bad_count n bad ≤ f → (xs : List ℕ) → Among n xs → q ≤ different xs → (i : ℕ) × In i xs × T (not (bad i))
  quorum-has-good bad few xs bx hx = let r = quorums_share_good bad few xs xs bx bx hx hx in (r.0, r.1, r.3)

  -- so many as the members less f are the good ones at least
  good_make :
      (k : ℕ) → k + f ≤ n → (bad : ℕ → Bool) → bad_count n bad ≤ f → (xs : List ℕ) → ((i : ℕ) → i < n → T (not (bad i)) → In i xs) → k ≤ different xs
  good_make k law bad few xs h =
      let all = count_all n in
      let apart = weigh_apart n (λ _. 1) bad in
      let cb = count_bad n bad in
      let inside = weigh_within n (λ _. 1) (λ i. not (bad i)) (λ i. is_in i xs) h in
      let cx = count≤different n xs in
      omega arith

  -- the good members make a quorum
  pub good_make_quorum :
      (bad : ℕ → Bool) → bad_count n bad ≤ f → (xs : List ℕ) → ((i : ℕ) → i < n → T (not (bad i)) → In i xs) → q ≤ different xs
  good_make_quorum = good_make q committee.good_suffice

  -- and have the votes
  pub good_have_votes :
      v + f ≤ n → (bad : ℕ → Bool) → bad_count n bad ≤ f → (xs : List ℕ) → ((i : ℕ) → i < n → T (not (bad i)) → In i xs) → v ≤ different xs
  good_have_votes = good_make v

  -- a quorum isn't empty
  pub quorum_some : 0 < q
  quorum_some = let law = committee.quorums_overlap in omega arith

  -- there is a member
  pub member_some : 0 < n
  member_some = let law = committee.good_suffice in let some = quorum_some in omega arith

  -- there is a good member
  pub some_good : (bad : ℕ → Bool) → bad_count n bad ≤ f → (i : ℕ) × (i < n) × T (not (bad i))
  some_good bad few =
      let law = committee.good_suffice in
      let some = quorum_some in
      let all = count_all n in
      let apart = weigh_apart n (λ _. 1) bad in
      let cb = count_bad n bad in
      weigh_some n (λ _. 1) (λ i. not (bad i)) (omega arith)

-- the members of a committee with f up to 4, and one more, are not too many parents
pub members-fit : (f : ℕ) → f ≤ 4 → members f + 1 ≤ max_parents
unfolding members
members-fit f h = omega arith

pub thresholds_hold : ThresholdsHold
thresholds_hold = record {
  laws = λ n q v f c. record {
    quorums_share_good = quorums_share_good c;
    quorum_meets_votes = quorum_meets_votes c;
    quorum-has-good = quorum-has-good c;
    good_make_quorum = good_make_quorum c;
    good_have_votes = good_have_votes c;
  };
  today = today;
  votes_few = votes_few;
}
