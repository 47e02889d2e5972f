use Rattle.std.proofs.Common.{[]}
use Rattle.scheme.proofs.record.Record.new.Given as goal

abbrev pub ghost-made : goal.ghost-made
ghost-made a = []
