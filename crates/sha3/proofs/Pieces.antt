-- Pieces fed one after the other lead to the digest of the whole: no state but one of 25 lanes comes up on the way.

use Rattle.std.proofs.Common.{◌≡◌, ℕ, ◌+◌, ◌%◌, ◌<◌, List, [], ◌∷◌, length, sym, refl, ap, ◌∙◌, mod-lt, arith}
use Rattle.sha3.specs.Sponge.{squeezed, sponge, zeros}
use Rattle.sha3.specs.Feeding.{feeding, Holds}
use Rattle.sha3.specs.Pieces.{joined, feedings, ended, AnyPieces}
use Rattle.sha3.proofs.Feeding.{feeding-++, place, finished}

feedings-joined : (r : ℕ) (f : List ℕ × ℕ) (pieces : List (List ℕ)) → feedings r f pieces ≡ feeding r f (joined pieces)
unfolding feeding feedings joined
feedings-joined r f [] = refl
feedings-joined r f (p ∷ ps) = feedings-joined r (feeding r f p) ps ∙ sym (feeding-++ r f p (joined ps))

pub any_pieces : AnyPieces
unfolding Holds ended sponge
any_pieces r suffix n pieces some small h =
    let fed : List ℕ = joined pieces in
    let f : List ℕ × ℕ = feeding r (zeros, 0) fed in
    let at : f.1 ≡ (0 + length fed) % r = place r zeros 0 fed some in
    let within : f.1 < r = omega (arith, mod-lt (0 + length fed) some) in
    ap (ended r suffix n) (feedings-joined r (zeros, 0) pieces)
    ∙ ap (squeezed r n) (sym (finished r suffix f.0 f.1 fed refl within small h))
