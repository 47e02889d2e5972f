use Rattle.model.proofs.Renaming.{names_dont_matter}
use Rattle.model.proofs.names_dont_matter_stands.Goals as goal

pub returns : goal.returns
returns c = names_dont_matter
