use Rattle.std.proofs.Common.{refl}
use Rattle.members.proofs.Sets.{holds_none}
use Rattle.members.proofs.MemberSet.empty.Goals as goal

pub returns : goal.returns
returns c = record { bits = refl; holds = holds_none }
