-- The scheme for rehearsals: a member's signature of a message is SHA3-512 of its secret and the message, one after the other.
-- All members know all secrets, so it keeps nobody from signing as another: it is for trying programs out, and for nothing else.

use Rattle.std.specs.Prelude.{ℕ, Bool, ◌&&◌, List, [], ◌++◌, length, Some, Option, nat_lt, slice_index_or}
use Rattle.sha3.specs.Sponge.{sha3_512}
use Rattle.scheme.specs.declared.rehearsal.Rehearsal.{Rehearsal}
use Rattle.scheme.specs.Bytes.{same}
use Rattle.scheme.specs.Keys.{keys_of}

-- The secret of a member.
abbrev pub secret_at : List (List ℕ) → ℕ → List ℕ
secret_at secrets member = slice_index_or secrets member []

-- Whether a signature is the right one: the member is there, and these are its bytes.
abbrev pub right_for : List (List ℕ) → ℕ → List ℕ → List ℕ → Bool
right_for secrets member message signature = nat_lt member (length secrets) && same signature (sha3_512 (secret_at secrets member ++ message))

-- What a seat with this secret signs a message by: always the same, whatever it has signed before.
abbrev pub signature_by : List ℕ → List (List ℕ) → List ℕ → Option (List ℕ)
signature_by secret said message = Some (sha3_512 (secret ++ message))

-- What a seat holds: the secrets of all members, whose seat it is, and what it has signed so far, the newest first.
abbrev pub seat_keys : Rehearsal → List (List ℕ)
seat_keys seat = keys_of seat.keys

abbrev pub seat_member : Rehearsal → ℕ
seat_member seat = seat.me

abbrev pub seat_secret : Rehearsal → List ℕ
seat_secret seat = secret_at (seat_keys seat) (seat_member seat)

abbrev pub seat_said : Rehearsal → List (List ℕ)
seat_said seat = seat.record.said
