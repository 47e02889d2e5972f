use Rattle.model.proofs.Safety.{orders_grow}
use Rattle.model.proofs.orders_grow_stands.Goals as goal

pub returns : goal.returns
returns c = orders_grow
