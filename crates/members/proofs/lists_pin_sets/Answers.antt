use Rattle.members.proofs.Sets.{lists_pin_sets}
use Rattle.members.proofs.lists_pin_sets.Goals as goal

pub returns : goal.returns
returns c = lists_pin_sets
