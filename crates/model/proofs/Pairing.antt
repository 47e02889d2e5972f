-- Two numbers as one, a list of numbers as one, a block as one, each read back from it: so a book can have a name for every block.
-- Assumes nothing.
use mathlib.Core.Path.{◌≡◌, refl, ap, ap₂, ◌∙◌}
use mathlib.Core.Bool.{cond}
use mathlib.Core.List.{List, [], ◌∷◌}
use Prim.Native.Nat.{ℕ, zero, suc, ◌+◌, ◌*◌, ◌/◌, ◌%◌, ◌≤◌, ◌<◌}
use native.Mathlib.Omega.{arith}
use lib.Dec.{eqb}
use Rattle.model.specs.Blocks.{Block, Book}
use Rattle.model.proofs.Tools.{cond-then, cond-else, eq→eqb, not_eqb}

-- ---- two numbers as one: in binary, y, then a 1, then x noughts
pair : ℕ → ℕ → ℕ
pair zero y = 2 * y + 1
pair (suc x) y = 2 * pair x y

pair_left_below : (x y : ℕ) → x < pair x y
unfolding pair
pair_left_below zero y = omega arith
pair_left_below (suc x) y = let ih = pair_left_below x y in omega arith

pair_right_below : (x y : ℕ) → y < pair x y
unfolding pair
pair_right_below zero y = omega arith
pair_right_below (suc x) y = let ih = pair_right_below x y in omega arith

-- how many noughts there are at the end, and what stands in front of the last 1; looking at most at so many digits
noughts : ℕ → ℕ → ℕ
noughts zero n = 0
noughts (suc k) n = cond (eqb (n % 2) 0) (suc (noughts k (n / 2))) 0

front : ℕ → ℕ → ℕ
front zero n = 0
front (suc k) n = cond (eqb (n % 2) 0) (front k (n / 2)) (n / 2)

noughts_pair : (k x y : ℕ) → x < k → noughts k (pair x y) ≡ x
unfolding pair noughts
noughts_pair zero x y h = absurd (omega arith)
noughts_pair (suc k) zero y h = cond-else (eqb ((2 * y + 1) % 2) 0) _ _ (not_eqb ((2 * y + 1) % 2) 0 (λ e. omega arith))
noughts_pair (suc k) (suc x) y h =
    let n = 2 * pair x y in
    let half : n / 2 ≡ pair x y = omega arith in
    cond-then (eqb (n % 2) 0) _ _ (eq→eqb (n % 2) 0 (omega arith)) ∙ ap suc (ap (noughts k) half ∙ noughts_pair k x y (omega arith))

front_pair : (k x y : ℕ) → x < k → front k (pair x y) ≡ y
unfolding pair front
front_pair zero x y h = absurd (omega arith)
front_pair (suc k) zero y h =
    let half : (2 * y + 1) / 2 ≡ y = omega arith in
    cond-else (eqb ((2 * y + 1) % 2) 0) _ _ (not_eqb ((2 * y + 1) % 2) 0 (λ e. omega arith)) ∙ half
front_pair (suc k) (suc x) y h =
    let n = 2 * pair x y in
    let half : n / 2 ≡ pair x y = omega arith in
    cond-then (eqb (n % 2) 0) _ _ (eq→eqb (n % 2) 0 (omega arith)) ∙ (ap (front k) half ∙ front_pair k x y (omega arith))

left : ℕ → ℕ
left n = noughts n n

right : ℕ → ℕ
right n = front n n

left_pair : (x y : ℕ) → left (pair x y) ≡ x
unfolding left
left_pair x y = noughts_pair (pair x y) x y (pair_left_below x y)

right_pair : (x y : ℕ) → right (pair x y) ≡ y
unfolding right
right_pair x y = front_pair (pair x y) x y (pair_left_below x y)

-- ---- a list as one number
as_one : List ℕ → ℕ
as_one [] = 0
as_one (x ∷ xs) = pair x (as_one xs)

-- the list that a number stands for, up to so many of it
list_of : ℕ → ℕ → List ℕ
list_of zero n = []
list_of (suc k) n = cond (eqb n 0) [] (left n ∷ list_of k (right n))

list_of_one : (k : ℕ) (xs : List ℕ) → as_one xs ≤ k → list_of k (as_one xs) ≡ xs
unfolding as_one list_of
list_of_one zero [] h = refl
list_of_one zero (x ∷ xs) h = let above = pair_right_below x (as_one xs) in absurd (omega arith)
list_of_one (suc k) [] h = refl
list_of_one (suc k) (x ∷ xs) h =
    let n = pair x (as_one xs) in
    let above = pair_right_below x (as_one xs) in
    cond-else (eqb n 0) _ _ (not_eqb n 0 (λ e. omega arith))
    ∙ ap₂ ◌∷◌ (left_pair x (as_one xs)) (ap (list_of k) (right_pair x (as_one xs)) ∙ list_of_one k xs (omega arith))

-- ---- a block as one number
pub name_of_block : Block → ℕ
name_of_block k = pair k.author (pair k.round (pair (as_one k.parents) (as_one k.load)))

-- the book in which every block has that name
pub book_of_all : Book
book_of_all n =
    let rest = right n in
    let lists = right rest in
    record { author = left n; round = left rest; parents = list_of (left lists) (left lists); load = list_of (right lists) (right lists) }

pub every_block_named : (k : Block) → book_of_all (name_of_block k) ≡ k
unfolding book_of_all name_of_block
every_block_named k = same
  where
    back : (n : ℕ) (xs : List ℕ) → n ≡ as_one xs → list_of n n ≡ xs
    back n xs e = ap (λ m. list_of m m) e ∙ list_of_one (as_one xs) xs (omega arith)

    ps : ℕ
    ps = as_one k.parents

    ls : ℕ
    ls = as_one k.load

    rest-is : right (name_of_block k) ≡ pair k.round (pair ps ls)
    rest-is = right_pair k.author _

    lists-is : right (right (name_of_block k)) ≡ pair ps ls
    lists-is = ap right rest-is ∙ right_pair k.round _

    same : book_of_all (name_of_block k) ≡ k
    same = λ i. record {
      author = left_pair k.author (pair k.round (pair ps ls)) i;
      round = (ap left rest-is ∙ left_pair k.round (pair ps ls)) i;
      parents = back _ k.parents (ap left lists-is ∙ left_pair ps ls) i;
      load = back _ k.load (ap right lists-is ∙ right_pair ps ls) i;
    }
