use Rattle.scheme.proofs.Ideal.{unforged_stays, unforged_joins, ideal_can_be_met}
use Rattle.scheme.proofs.signing.ideal_laws.Goals as goal

pub returns : goal.returns
returns c = record { stays = unforged_stays; joins = unforged_joins; met = ideal_can_be_met }
