use Rattle.std.proofs.Common.{◌∷◌}
use Rattle.scheme.proofs.record.Record.with.Given as goal

abbrev pub ghost-made : goal.ghost-made
ghost-made a = a.of.now.1.now ∷ a.of.now.0.now.said
