-- That a set's number holds the lists that its calls say. Assumes nothing.
use Rattle.std.proofs.Common.{◌≡◌, ℕ, zero, suc, ◌+◌, ◌*◌, ◌/◌, ◌%◌, ◌^◌, ◌<◌, ◌≤◌, false, cond, ◌&&◌, ◌||◌, T, eqb, ltb, ◌⊎◌, List, [], ◌∷◌, map, sym, refl, ap, ◌∙◌, subst, ap₂, inl, inr, ⊎_elim, one-mul, arith, ltb→lt, lt→ltb, shl_exact}
use lib.Bits.{bit_or, bit_and}
use lib.Count.{ones, ones_step}
use lib.Dec.{eqb-zero-suc, eqb-suc-zero, eqb-suc-suc, leb-suc-suc}
use Rattle.std.proofs.lemmas.Bool.{ne_eqb}
use Rattle.std.proofs.lemmas.Nat.Bits.{shr_and_one}
use Rattle.model.specs.Names.{is_in, different, all_below}
use Rattle.model.proofs.Tools.{and_both, and_left, and_right}
use Rattle.members.specs.Sets.{has_bit, limit, Holds, Adds, ListsPinSets}
use Rattle.members.proofs.Digits.{first_bit, later_bit, set_bit, set_ones, no_bit, bits_pin, half_lt, below_two}

-- nought holds the empty list
pub holds_none : Holds 0 []
unfolding is_in different all_below ones
holds_none = record { below = tt; has = no_bit; count = refl }

-- setting the member's bit adds the member
pub holds_more : (member bits : ℕ) → member < limit → Adds member bits (bit_or bits (2 ^ member))
unfolding is_in different all_below
holds_more member bits small xs h = record {
  below = and_both (ltb member limit) (all_below limit xs) (lt→ltb member limit small) h.below;
  has = λ i. set_bit member bits i ∙ ap (λ t. eqb i member || t) (h.has i);
  count = set_ones member bits ∙ ap₂ (λ t n. cond t n (suc n)) (h.has member) h.count;
}

-- as the code writes the member's bit
pub shifted : (member : ℕ) → member < limit → (1 * 2 ^ member) % 2 ^ limit ≡ 2 ^ member
shifted member small = shl_exact 1 member limit (omega arith) (omega arith) ∙ one-mul (2 ^ member)

-- what is read at a bit: whether the member is in
pub read_bit : (member bits : ℕ) (xs : List ℕ) → Holds bits xs → eqb (bit_and (bits / 2 ^ member) 1) 1 ≡ is_in member xs
unfolding has_bit
read_bit member bits xs h = ap (λ x. eqb x 1) (shr_and_one bits member) ∙ h.has member

none_above : (n member : ℕ) (xs : List ℕ) → n ≤ member → T (all_below n xs) → is_in member xs ≡ false
unfolding is_in all_below
none_above n member [] large below = refl
none_above n member (x ∷ xs) large below =
    let small : x < n = ltb→lt x n (and_left (ltb x n) (all_below n xs) below) in
    ap₂ ◌||◌ (ne_eqb member x (λ e. omega arith)) (none_above n member xs large (and_right (ltb x n) (all_below n xs) below))

-- a number of 64 or more is in no list that a set holds
pub not_in : (member bits : ℕ) (xs : List ℕ) → limit ≤ member → Holds bits xs → is_in member xs ≡ false
not_in member bits xs large h = none_above limit member xs large h.below

-- every list moved up by one: what is in it, how many different ones, and their bound
up_zero : (ys : List ℕ) → is_in zero (map suc ys) ≡ false
unfolding is_in
up_zero [] = refl
up_zero (y ∷ ys) = ap₂ ◌||◌ (eqb-zero-suc y) (up_zero ys)

up_suc : (i : ℕ) (ys : List ℕ) → is_in (suc i) (map suc ys) ≡ is_in i ys
unfolding is_in
up_suc i [] = refl
up_suc i (y ∷ ys) = ap₂ ◌||◌ (eqb-suc-suc i y) (up_suc i ys)

up_different : (ys : List ℕ) → different (map suc ys) ≡ different ys
unfolding different
up_different [] = refl
up_different (y ∷ ys) = ap₂ (λ t n. cond t n (suc n)) (up_suc y ys) (up_different ys)

up_below : (k : ℕ) (ys : List ℕ) → all_below (suc k) (map suc ys) ≡ all_below k ys
unfolding all_below
up_below k [] = refl
up_below k (y ∷ ys) = ap₂ ◌&&◌ (leb-suc-suc (suc y) k) (up_below k ys)

-- the list of a number's set bits, below k
record Lists (k bits : ℕ) : Type 0 where
  xs : List ℕ
  below : T (all_below k xs)
  has : (i : ℕ) → has_bit i bits ≡ is_in i xs
  count : ones bits ≡ different xs

lists_even : (k b : ℕ) → b % 2 ≡ 0 → Lists k (b / 2) → Lists (suc k) b
lists_even k b even l = record {
  xs = map suc l.xs;
  below = subst T (sym (up_below k l.xs)) l.below;
  has = bit;
  count = ones_step b ∙ ap₂ (λ m n. m + n) even l.count ∙ (let e = up_different l.xs in omega arith);
}
  where
    bit : (i : ℕ) → has_bit i b ≡ is_in i (map suc l.xs)
    bit zero = first_bit b ∙ ap (λ x. eqb x 1) even ∙ sym (up_zero l.xs)
    bit (suc i) = later_bit i b ∙ l.has i ∙ sym (up_suc i l.xs)

lists_odd : (k b : ℕ) → b % 2 ≡ 1 → Lists k (b / 2) → Lists (suc k) b
unfolding is_in different all_below
lists_odd k b odd l = record {
  xs = zero ∷ map suc l.xs;
  below = and_both (ltb zero (suc k)) (all_below (suc k) (map suc l.xs)) (lt→ltb zero (suc k) (omega arith))
      (subst T (sym (up_below k l.xs)) l.below);
  has = bit;
  count =
      ones_step b ∙ ap₂ (λ m n. m + n) odd l.count
      ∙ (let e = up_different l.xs in omega arith)
      ∙ sym (ap (λ t. cond t (different (map suc l.xs)) (suc (different (map suc l.xs)))) (up_zero l.xs));
}
  where
    bit : (i : ℕ) → has_bit i b ≡ (eqb i zero || is_in i (map suc l.xs))
    bit zero = first_bit b ∙ ap (λ x. eqb x 1) odd
    bit (suc i) = later_bit i b ∙ l.has i ∙ sym (ap₂ ◌||◌ (eqb-suc-zero i) (up_suc i l.xs))

listed : (k b : ℕ) → b < 2 ^ k → Lists k b
unfolding is_in different all_below ones
listed zero b h =
    let none : 0 ≡ b = omega arith in
    subst (Lists zero) none (record { xs = []; below = tt; has = no_bit; count = refl })
listed (suc k) b h =
    let l = listed k (b / 2) (half_lt k b h) in
    let r = below_two b in
    ⊎_elim (λ e. lists_even k b e l) (λ e. lists_odd k b e l) (zero-or-one (b % 2) r)
  where
    zero-or-one : (r : ℕ) → r < 2 → (r ≡ 0) ⊎ (r ≡ 1)
    zero-or-one zero h = inl refl
    zero-or-one (suc r) h = inr (omega arith)

pub lists_pin_sets : ListsPinSets
lists_pin_sets = record {
  some_list = λ bits h. let l = listed limit bits h in (l.xs, record { below = l.below; has = l.has; count = l.count });
  one_set = λ a b h k xs p q. bits_pin a b (λ i. p.has i ∙ sym (q.has i));
}
