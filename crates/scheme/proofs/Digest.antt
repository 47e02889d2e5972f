-- A digest of SHA3-512 has 64 bytes: they are the first of the 200 that a state of 25 lanes gives.
-- Assumes nothing.

use Rattle.std.proofs.Common.{◌≡◌, ℕ, zero, suc, ◌*◌, ◌/◌, List, [], ◌∷◌, ◌++◌, length, take, refl, ap, ◌∙◌, append-nil, arith, length-take-le}
use Rattle.sha3.specs.Keccak.{keccak_round, rounds, keccak}
use Rattle.sha3.specs.Sponge.{bytes_of, absorb, blocks, squeezed, sponge, padded, zeros, sha3_suffix, sha3_512}

-- Whatever it is given, a permutation gives 25 lanes.
length-keccak : (s : List ℕ) → length (keccak s) ≡ 25
unfolding rounds keccak_round
length-keccak s = refl

length-absorb : (r n : ℕ) (p s : List ℕ) → length s ≡ 25 → length (absorb r n p s) ≡ 25
unfolding absorb
length-absorb r zero p s e = e
length-absorb r (suc n) p s e = length-absorb r n _ _ (length-keccak _)

length-bytes_of : (s : List ℕ) → length (bytes_of s) ≡ 8 * length s
unfolding bytes_of
length-bytes_of [] = refl
length-bytes_of (v ∷ vs) = let ih = length-bytes_of vs in omega arith

pub length-sha3_512 : (m : List ℕ) → length (sha3_512 m) ≡ 64
unfolding sponge squeezed blocks
length-sha3_512 m =
    let text : List ℕ = padded 72 sha3_suffix m in
    let state : List ℕ = absorb 72 (length text / 72) text zeros in
    let all : length (bytes_of state) ≡ 8 * 25 = length-bytes_of state ∙ ap (λ n. 8 * n) (length-absorb 72 (length text / 72) text zeros refl) in
    let block : length (take 72 (bytes_of state)) ≡ 72 = length-take-le 72 (bytes_of state) (omega arith) in
    let whole : length (take 72 (bytes_of state) ++ []) ≡ 72 = ap length (append-nil (take 72 (bytes_of state))) ∙ block in
    length-take-le 64 (take 72 (bytes_of state) ++ []) (omega arith)
