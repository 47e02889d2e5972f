use Rattle.model.proofs.Main.{main_promise}
use Rattle.model.proofs.main_promise_stands.Goals as goal

pub returns : goal.returns
returns c = main_promise
