use Rattle.order_theory.proofs.Main.{steps_write_order}
use Rattle.order_theory.proofs.steps_write_order_stands.Goals as goal

pub returns : goal.returns
returns c = steps_write_order
