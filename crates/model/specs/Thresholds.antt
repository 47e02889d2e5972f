-- How large a committee is that holds with f bad members, and how many of it a certificate and an anchor need. The proofs of the promises know
-- these numbers only by their laws, at the end of this file; only worked cases compute with them. Assumes nothing.
use Rattle.std.specs.Prelude.{Bool, cond, not, List, ℕ, zero, suc, ◌+◌, ◌*◌, ◌≤◌, ◌<◌, T}
use Rattle.model.specs.Names.{is_in, different}

-- programs serve committees with f up to this: thirteen members
abbrev pub max_faults : ℕ
max_faults = 4

-- how many members there are: 0 to 3 f
unfoldable pub members : ℕ → ℕ
members f = 3 * f + 1

-- a quorum: so many different members sign a certificate, and so many different authors' blocks of the round before are a block's parents
unfoldable pub quorum : ℕ → ℕ
quorum f = 2 * f + 1

-- so many blocks of the next round, having a leader's block as a parent, make it an anchor
unfoldable pub needed_votes : ℕ → ℕ
needed_votes f = f + 1

-- how many of the members below n are bad
unfoldable pub bad_count : ℕ → (ℕ → Bool) → ℕ
bad_count zero bad = 0
bad_count (suc n) bad = cond (bad n) (suc (bad_count n bad)) (bad_count n bad)

-- at most f of the committee are bad
abbrev pub Few : ℕ → (ℕ → Bool) → Type 0
Few f bad = bad_count (members f) bad ≤ f

-- What is asked of n members, a quorum q and votes v, at most f of the members being bad: two quorums share more than f members, a quorum and
-- the votes share one, and the good members make a quorum.
pub record Committee (n q v f : ℕ) : Type 0 where
  pub quorums_overlap : n + f < q + q
  pub quorum_overlaps_votes : n < q + v
  pub good_suffice : q + f ≤ n

-- each of the list is one of the n members
abbrev pub Among : ℕ → List ℕ → Type 0
Among n xs = (x : ℕ) → T (is_in x xs) → x < n

-- The laws of thresholds: all that the promises rest on of these numbers, for every such committee. That the good members have the votes asks
-- that the votes are no more than the members less f.
pub record ThresholdLaws (n q v f : ℕ) : Type 0 where
  pub quorums_share_good :
      (bad : ℕ → Bool) → bad_count n bad ≤ f → (xs ys : List ℕ) → Among n xs → Among n ys → q ≤ different xs → q ≤ different ys →
      (i : ℕ) × T (is_in i xs) × T (is_in i ys) × T (not (bad i))
  pub quorum_meets_votes :
      (xs ys : List ℕ) → Among n xs → Among n ys → q ≤ different xs → v ≤ different ys → (i : ℕ) × T (is_in i xs) × T (is_in i ys)
  pub quorum-has-good :
      (bad : ℕ → Bool) → bad_count n bad ≤ f → (xs : List ℕ) → Among n xs → q ≤ different xs → (i : ℕ) × T (is_in i xs) × T (not (bad i))
  pub good_make_quorum :
      (bad : ℕ → Bool) → bad_count n bad ≤ f → (xs : List ℕ) → ((i : ℕ) → i < n → T (not (bad i)) → T (is_in i xs)) → q ≤ different xs
  pub good_have_votes :
      v + f ≤ n → (bad : ℕ → Bool) → bad_count n bad ≤ f → (xs : List ℕ) → ((i : ℕ) → i < n → T (not (bad i)) → T (is_in i xs)) → v ≤ different xs

-- The laws hold for every committee of that kind, and today's numbers are one.
pub record ThresholdsHold : Type 0 where
  pub laws : (n q v f : ℕ) → Committee n q v f → ThresholdLaws n q v f
  pub today : (f : ℕ) → Committee (members f) (quorum f) (needed_votes f) f
  pub votes_few : (f : ℕ) → needed_votes f + f ≤ members f
