-- The laws of `Unforged`: it stays as more is signed, holds of lists together, and can be met.
-- Assumes nothing.

use Rattle.std.proofs.Common.{[], ◌∷◌, ap, ◌∙◌}
use Rattle.scheme.specs.Bytes.{is_in}
use Rattle.scheme.specs.Ideal.{Unforged, UnforgedStays, UnforgedJoins, IdealCanBeMet}
use Rattle.scheme.proofs.Bytes.{is_in_later}

pub unforged_stays : UnforgedStays
unfolding Unforged
unforged_stays right good before after [] grows u = tt
unforged_stays right good before after (s ∷ met) grows u =
    let more = grows s.member in (
      (λ g a. ap (is_in s.message) more.1 ∙ is_in_later s.message more.0 (before s.member) (u.0 g a)),
      unforged_stays right good before after met grows u.1,
    )

pub unforged_joins : UnforgedJoins
unfolding Unforged
unforged_joins right good said [] others u v = v
unforged_joins right good said (s ∷ some) others u v = (u.0, unforged_joins right good said some others u.1 v)

pub ideal_can_be_met : IdealCanBeMet
unfolding Unforged
ideal_can_be_met good said [] = tt
ideal_can_be_met good said (s ∷ met) = ((λ g a. a), ideal_can_be_met good said met)
