-- Bytes added to the string of a state: several pieces one after the other, and eight bytes at once as a lane.
-- The bytes are below 256, and the lane lies in the state.

use Rattle.std.proofs.Common.{◌≡◌, ℕ, zero, suc, ◌+◌, ◌*◌, ◌/◌, ◌%◌, ◌^◌, ◌<◌, ◌≤◌, ◌⊎◌, List, [], ◌∷◌, ◌++◌, length, get_or, take, drop, set, sym, refl, ap, ⊎_elim, ◌∙◌, lt_of_lt_of_le, add-zero, add_assoc, add_comm, add-one, arith, lit<, drop_of_length-le, drop-cons, drop-drop, get_or-set_same, set-set, pow_mono}
use lib.Seq.{set-get_or}
use lib.Bits.{bit_xor, xor_assoc, xor_comm, xor_shifted, xor_zero_r}
use Rattle.std.specs.Simd.{first_chunks}
use Rattle.std.proofs.lemmas.Nat.{shl_below}
use Rattle.sha3.specs.Sponge.{add_byte, add_bytes}

-- A byte moved to its place in a lane fits the lane.
pub byte_fits : (b i : ℕ) → b < 256 → b * 2 ^ (8 * (i % 8)) < 2 ^ 64
byte_fits b i h =
    let top : 8 + 8 * (i % 8) ≤ 64 = omega arith in
    lt_of_lt_of_le (shl_below b 8 (8 * (i % 8)) h) (pow_mono top)

-- Two pieces.
pub add_bytes-++ : (s : List ℕ) (i : ℕ) (xs ys : List ℕ) → add_bytes s i (xs ++ ys) ≡ add_bytes (add_bytes s i xs) (i + length xs) ys
unfolding add_bytes
add_bytes-++ s i [] ys = rw add-zero
add_bytes-++ s i (x ∷ xs) ys = add_bytes-++ (add_byte s i x) (i + 1) xs ys ∙ ap (λ k. add_bytes (add_bytes s i (x ∷ xs)) k ys) (omega arith)

-- One more byte of lane q, above the i bytes in acc that were added before.
placed : (s : List ℕ) (q g acc i b : ℕ) → q < length s → i < 8 → acc < 2 ^ (8 * i)
    → add_byte (set s q (bit_xor g acc)) (8 * q + i) b ≡ set s q (bit_xor g (acc + b * 2 ^ (8 * i)))
placed s q g acc i b hq hi ha =
    let t : List ℕ = set s q (bit_xor g acc) in
    let lane : (8 * q + i) / 8 ≡ q = omega arith in
    let place : (8 * q + i) % 8 ≡ i = omega arith in
    let sum : bit_xor acc (b * 2 ^ (8 * i)) ≡ acc + b * 2 ^ (8 * i)
    = xor_comm acc (b * 2 ^ (8 * i)) ∙ xor_shifted b (8 * i) acc ha ∙ add_comm (b * 2 ^ (8 * i)) acc in
    ap (λ k. set t k (bit_xor (get_or t k 0) (b * 2 ^ (8 * ((8 * q + i) % 8))))) lane
    ∙ ap (λ k. set t q (bit_xor (get_or t q 0) (b * 2 ^ (8 * k)))) place
    ∙ ap (λ v. set t q (bit_xor v (b * 2 ^ (8 * i)))) (get_or-set_same s q (bit_xor g acc) 0 hq)
    ∙ set-set s q (bit_xor g acc) (bit_xor (bit_xor g acc) (b * 2 ^ (8 * i)))
    ∙ ap (set s q) (xor_assoc g acc (b * 2 ^ (8 * i)) ∙ ap (bit_xor g) sum)

-- The same with bytes to come.
more : (s : List ℕ) (q g acc i b : ℕ) (bs : List ℕ) → q < length s → i < 8 → acc < 2 ^ (8 * i)
    → add_bytes (set s q (bit_xor g acc)) (8 * q + i) (b ∷ bs) ≡ add_bytes (set s q (bit_xor g (acc + b * 2 ^ (8 * i)))) (8 * q + (i + 1)) bs
unfolding add_bytes
more s q g acc i b bs hq hi ha =
    let next : (8 * q + i) + 1 ≡ 8 * q + (i + 1) = omega arith in
    ap (λ t. add_bytes t (8 * q + i + 1) bs) (placed s q g acc i b hq hi ha)
    ∙ ap (λ k. add_bytes (set s q (bit_xor g (acc + b * 2 ^ (8 * i)))) k bs) next

-- A whole lane: its eight bytes as one number, the lowest byte first.
pub lane_at_once : (s : List ℕ) (q b0 b1 b2 b3 b4 b5 b6 b7 : ℕ) (bs : List ℕ) → q < length s
    → b0 < 256 → b1 < 256 → b2 < 256 → b3 < 256 → b4 < 256 → b5 < 256 → b6 < 256 → b7 < 256
    → add_bytes s (8 * q) (b0 ∷ b1 ∷ b2 ∷ b3 ∷ b4 ∷ b5 ∷ b6 ∷ b7 ∷ bs)
    ≡ add_bytes
    (set s q (bit_xor (get_or s q 0) (b0 + b1 * 256 + b2 * 65536 + b3 * 16777216
    + b4 * 4294967296 + b5 * 1099511627776 + b6 * 281474976710656 + b7 * 72057594037927936)))
    (8 * (q + 1)) bs
lane_at_once s q b0 b1 b2 b3 b4 b5 b6 b7 bs hq h0 h1 h2 h3 h4 h5 h6 h7 =
    let g : ℕ = get_or s q 0 in
    let start : s ≡ set s q (bit_xor g 0) = sym (ap (set s q) (xor_zero_r g) ∙ set-get_or s q 0) in
    let first : add_bytes (set s q (bit_xor g 0)) (8 * q + 0) (b0 ∷ b1 ∷ b2 ∷ b3 ∷ b4 ∷ b5 ∷ b6 ∷ b7 ∷ bs)
    ≡ add_bytes (set s q (bit_xor g (0 + b0 * 1))) (8 * q + 1) (b1 ∷ b2 ∷ b3 ∷ b4 ∷ b5 ∷ b6 ∷ b7 ∷ bs)
    = more s q g 0 0 b0 _ hq (lit< tt) (lit< tt) in
    let plain : 0 + b0 * 1 ≡ b0 = omega arith in
    ap (λ t. add_bytes t (8 * q) (b0 ∷ b1 ∷ b2 ∷ b3 ∷ b4 ∷ b5 ∷ b6 ∷ b7 ∷ bs)) start
    ∙ ap (λ k. add_bytes (set s q (bit_xor g 0)) k (b0 ∷ b1 ∷ b2 ∷ b3 ∷ b4 ∷ b5 ∷ b6 ∷ b7 ∷ bs)) (sym (add-zero (8 * q)))
    ∙ first
    ∙ ap (λ v. add_bytes (set s q (bit_xor g v)) (8 * q + 1) (b1 ∷ b2 ∷ b3 ∷ b4 ∷ b5 ∷ b6 ∷ b7 ∷ bs)) plain
    ∙ more s q g b0 1 b1 _ hq (lit< tt) (omega arith)
    ∙ more s q g (b0 + b1 * 256) 2 b2 _ hq (lit< tt) (omega arith)
    ∙ more s q g (b0 + b1 * 256 + b2 * 65536) 3 b3 _ hq (lit< tt) (omega arith)
    ∙ more s q g (b0 + b1 * 256 + b2 * 65536 + b3 * 16777216) 4 b4 _ hq (lit< tt) (omega arith)
    ∙ more s q g (b0 + b1 * 256 + b2 * 65536 + b3 * 16777216 + b4 * 4294967296) 5 b5 _ hq (lit< tt) (omega arith)
    ∙ more s q g (b0 + b1 * 256 + b2 * 65536 + b3 * 16777216 + b4 * 4294967296 + b5 * 1099511627776) 6 b6 _ hq (lit< tt) (omega arith)
    ∙ more s q g (b0 + b1 * 256 + b2 * 65536 + b3 * 16777216 + b4 * 4294967296 + b5 * 1099511627776 + b6 * 281474976710656) 7 b7 _
    hq (lit< tt) (omega arith)
    ∙ ap (λ k. add_bytes (set s q (bit_xor g (b0 + b1 * 256 + b2 * 65536 + b3 * 16777216 + b4 * 4294967296 + b5 * 1099511627776
    + b6 * 281474976710656 + b7 * 72057594037927936))) k bs) (omega arith)

-- A turn of a loop that adds bytes one by one.
pub singly_more : (s : List ℕ) (at i : ℕ) (bytes : List ℕ) → i < length bytes
    → add_bytes s (at + i) (drop i bytes) ≡ add_bytes (add_byte s (at + i) (get_or bytes i 0)) (at + (i + 1)) (drop (i + 1) bytes)
unfolding add_bytes
singly_more s at i bytes h =
    ap (add_bytes s (at + i)) (drop-cons bytes i 0 h)
    ∙ ap (λ k. add_bytes (add_byte s (at + i) (get_or bytes i 0)) k (drop (suc i) bytes)) (add_assoc at i 1)
    ∙ ap (λ k. add_bytes (add_byte s (at + i) (get_or bytes i 0)) (at + (i + 1)) (drop k bytes)) (sym (add-one i))

next_one : (xs : List ℕ) (j k : ℕ) → j + k < length xs → drop (j + k) xs ≡ get_or xs (j + k) 0 ∷ drop (j + (k + 1)) xs
next_one xs j k h =
    let after : suc (j + k) ≡ j + (k + 1) = omega arith in
    drop-cons xs (j + k) 0 h ∙ ap (λ n. get_or xs (j + k) 0 ∷ drop n xs) after

next_eight : (xs : List ℕ) (j : ℕ) → j + 8 ≤ length xs
    → drop j xs
    ≡ get_or xs j 0 ∷ get_or xs (j + 1) 0 ∷ get_or xs (j + 2) 0 ∷ get_or xs (j + 3) 0
    ∷ get_or xs (j + 4) 0 ∷ get_or xs (j + 5) 0 ∷ get_or xs (j + 6) 0 ∷ get_or xs (j + 7) 0 ∷ drop (j + 8) xs
next_eight xs j h =
    drop-cons xs j 0 (omega arith) ∙ ap (λ n. get_or xs j 0 ∷ drop n xs) (sym (add-one j))
    ∙ ap (λ t. get_or xs j 0 ∷ t) (next_one xs j 1 (omega arith)
    ∙ ap (λ t. get_or xs (j + 1) 0 ∷ t) (next_one xs j 2 (omega arith)
    ∙ ap (λ t. get_or xs (j + 2) 0 ∷ t) (next_one xs j 3 (omega arith)
    ∙ ap (λ t. get_or xs (j + 3) 0 ∷ t) (next_one xs j 4 (omega arith)
    ∙ ap (λ t. get_or xs (j + 4) 0 ∷ t) (next_one xs j 5 (omega arith)
    ∙ ap (λ t. get_or xs (j + 5) 0 ∷ t) (next_one xs j 6 (omega arith)
    ∙ ap (λ t. get_or xs (j + 6) 0 ∷ t) (next_one xs j 7 (omega arith))))))))

-- The number that eight bytes from j on make, the lowest first.
abbrev pub word_at : List ℕ → ℕ → ℕ
word_at xs j =
    get_or xs j 0 + get_or xs (j + 1) 0 * 256 + get_or xs (j + 2) 0 * 65536 + get_or xs (j + 3) 0 * 16777216
    + get_or xs (j + 4) 0 * 4294967296 + get_or xs (j + 5) 0 * 1099511627776 + get_or xs (j + 6) 0 * 281474976710656
    + get_or xs (j + 7) 0 * 72057594037927936

-- The number that the chunk from byte j on makes.
pub chunk_word : (xs : List ℕ) (j : ℕ) → j + 8 ≤ length xs → word_at (take 8 (drop j xs)) 0 ≡ word_at xs j
chunk_word xs j h = ap (λ t. word_at (take 8 t) 0) (next_eight xs j h)

-- The chunks of eight bytes, one by one.
pub chunk_at : (n i : ℕ) (xs none : List ℕ) → i < n → get_or (first_chunks 8 n xs) i none ≡ take 8 (drop (8 * i) xs)
chunk_at zero i xs none h = absurd (omega arith)
chunk_at (suc n) zero xs none h = refl
chunk_at (suc n) (suc i) xs none h =
    let on : 8 + 8 * i ≡ 8 * suc i = omega arith in
    chunk_at n i (drop 8 xs) none (omega arith) ∙ ap (take 8) (drop-drop (8 * i) 8 xs ∙ ap (λ k. drop k xs) on)

-- A turn of a loop that adds whole lanes.
pub lanes_more : (s : List ℕ) (q i : ℕ) (bytes : List ℕ) → 8 * i + 8 ≤ length bytes → q + i < length s → ((k : ℕ) → get_or bytes k 0 < 256)
    → add_bytes s (8 * (q + i)) (drop (8 * i) bytes)
    ≡ add_bytes (set s (q + i) (bit_xor (get_or s (q + i) 0) (word_at bytes (8 * i)))) (8 * (q + (i + 1))) (drop (8 * (i + 1)) bytes)
lanes_more s q i bytes h hq fit =
    let j : ℕ = 8 * i in
    let t : List ℕ = set s (q + i) (bit_xor (get_or s (q + i) 0) (word_at bytes (8 * i))) in
    let places : 8 * ((q + i) + 1) ≡ 8 * (q + (i + 1)) = omega arith in
    let ends : 8 * i + 8 ≡ 8 * (i + 1) = omega arith in
    ap (add_bytes s (8 * (q + i))) (next_eight bytes j h)
    ∙ lane_at_once s (q + i) (get_or bytes j 0) (get_or bytes (j + 1) 0) (get_or bytes (j + 2) 0) (get_or bytes (j + 3) 0)
    (get_or bytes (j + 4) 0) (get_or bytes (j + 5) 0) (get_or bytes (j + 6) 0) (get_or bytes (j + 7) 0) (drop (j + 8) bytes) hq
    (fit j) (fit (j + 1)) (fit (j + 2)) (fit (j + 3)) (fit (j + 4)) (fit (j + 5)) (fit (j + 6)) (fit (j + 7))
    ∙ ap (λ k. add_bytes t k (drop (j + 8) bytes)) places
    ∙ ap (λ k. add_bytes t (8 * (q + (i + 1))) (drop k bytes)) ends

-- Nothing is left once the end is reached.
pub none_left : (s : List ℕ) (at i : ℕ) (bytes : List ℕ) → length bytes ≤ i → add_bytes s at (drop i bytes) ≡ s
unfolding add_bytes
none_left s at i bytes h = ap (add_bytes s at) (drop_of_length-le bytes h)

-- Where nothing is added, it doesn't matter at which place.
pub same_place : (s : List ℕ) (i j : ℕ) (bytes : List ℕ) → (length bytes ≡ 0) ⊎ (i ≡ j) → add_bytes s i bytes ≡ add_bytes s j bytes
unfolding add_bytes
same_place s i j [] h = refl
same_place s i j (b ∷ bs) h = ⊎_elim (λ none. absurd (omega arith)) (λ e. ap (λ k. add_bytes s k (b ∷ bs)) e) h

-- Three pieces, of which the middle one is added from lane q on.
pub three_pieces : (s : List ℕ) (at q : ℕ) (bytes head rest lanes tail s1 s2 s3 : List ℕ)
    → bytes ≡ head ++ rest → rest ≡ lanes ++ tail → (length lanes ≡ 0) ⊎ (at + length head ≡ 8 * q)
    → s1 ≡ add_bytes s at head → s2 ≡ add_bytes s1 (8 * q) lanes → s3 ≡ add_bytes s2 (at + length head + length lanes) tail
    → s3 ≡ add_bytes s at bytes
three_pieces s at q bytes head rest lanes tail s1 s2 s3 split split2 lane e1 e2 e3 =
    let end : ℕ = at + length head in
    sym
    (ap (add_bytes s at) (split ∙ ap (λ t. head ++ t) split2)
    ∙ add_bytes-++ s at head (lanes ++ tail)
    ∙ ap (λ t. add_bytes t end (lanes ++ tail)) (sym e1)
    ∙ add_bytes-++ s1 end lanes tail
    ∙ ap (λ t. add_bytes t (end + length lanes) tail) (same_place s1 end (8 * q) lanes lane ∙ sym e2)
    ∙ sym e3)
