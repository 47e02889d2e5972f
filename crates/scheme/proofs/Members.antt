-- The right signatures of a rehearsal: whose secret stands where, and what a right signature says of its member and its length.
-- Assumes nothing.

use Rattle.std.proofs.Common.{◌≡◌, ℕ, zero, suc, ◌<◌, ◌≤◌, true, false, ◌&&◌, ltb, List, [], ◌∷◌, ◌++◌, map, length, get_or, sym, refl, ap, ◌∙◌, arith}
use Rattle.std.proofs.lemmas.Bool.{lt-ltb, le-ltb, ltb-true}
use Rattle.sha3.specs.Sponge.{sha3_512}
use Rattle.scheme.specs.declared.keys.Secret.{Secret}
use Rattle.scheme.specs.Bytes.{same}
use Rattle.scheme.specs.Rehearsal.{secret_at, right_for}
use Rattle.scheme.proofs.Bytes.{both, same_equal, same_refl}
use Rattle.scheme.proofs.Digest.{length-sha3_512}

-- The bytes of the secret that stands at a place.
pub secret_at_lem : (secrets : List Secret) (i : ℕ) (s : Secret) → i < length secrets → s ≡ get_or secrets i s
    → secret_at (map (λ secret. secret.0) secrets) i ≡ s.0
secret_at_lem [] i s h e = absurd (omega arith)
secret_at_lem (x ∷ secrets) zero s h e = ap (λ secret. secret.0) (sym e)
secret_at_lem (x ∷ secrets) (suc i) s h e = secret_at_lem secrets i s (omega arith) e

module _ (secrets : List (List ℕ)) (member : ℕ) (message signature : List ℕ) where
  -- A member that is there: its signature is compared.
  pub right_there : (secret : List ℕ) → member < length secrets → secret_at secrets member ≡ secret
      → same signature (sha3_512 (secret ++ message)) ≡ right_for secrets member message signature
  right_there secret h e =
      ap (λ s. same signature (sha3_512 (s ++ message))) (sym e)
      ∙ ap (λ b. b && same signature (sha3_512 (secret_at secrets member ++ message))) (sym (lt-ltb member (length secrets) h))

  -- A member that is not there: no signature is right.
  pub wrong_absent : length secrets ≤ member → false ≡ right_for secrets member message signature
  wrong_absent h = ap (λ b. b && same signature (sha3_512 (secret_at secrets member ++ message))) (sym (le-ltb member (length secrets) h))

  pub right_member : right_for secrets member message signature ≡ true → member < length secrets
  right_member e =
      ltb-true member (length secrets) (both (ltb member (length secrets)) (same signature (sha3_512 (secret_at secrets member ++ message))) e).0

  pub right_bytes : right_for secrets member message signature ≡ true → signature ≡ sha3_512 (secret_at secrets member ++ message)
  right_bytes e =
      same_equal signature (sha3_512 (secret_at secrets member ++ message))
      (both (ltb member (length secrets)) (same signature (sha3_512 (secret_at secrets member ++ message))) e).1

  pub right_long : right_for secrets member message signature ≡ true → length signature ≡ 64
  right_long e = ap length (right_bytes e) ∙ length-sha3_512 (secret_at secrets member ++ message)

-- A member's own signature is right.
pub right_own : (secrets : List (List ℕ)) (member : ℕ) (message : List ℕ) → member < length secrets
    → right_for secrets member message (sha3_512 (secret_at secrets member ++ message)) ≡ true
right_own secrets member message h =
    sym (right_there secrets member message (sha3_512 (secret_at secrets member ++ message)) (secret_at secrets member) h refl)
    ∙ same_refl (sha3_512 (secret_at secrets member ++ message))
