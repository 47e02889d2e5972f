use Rattle.model.proofs.Safety.{orders_agree}
use Rattle.model.proofs.orders_agree_stands.Goals as goal

pub returns : goal.returns
returns c = orders_agree
