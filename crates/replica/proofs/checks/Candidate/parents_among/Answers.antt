use Rattle.std.proofs.Common.{rules, tests, ◌∙◌, sym}
use Rattle.std.proofs.lemmas.Iterator.Consumers.{YieldsList-from_first}
use Rattle.std.proofs.lemmas.Iterator.Search.{all_from_yields_List}
use Rattle.replica.specs.Candidates.{block_of}
use Rattle.replica.proofs.Lists.{has, all_in_has}
use Rattle.replica.proofs.checks.Candidate.parents_among.Goals as goal

pub returns : goal.returns
returns g c =
    all_from_yields_List (has c.args.names.now) _ _ _ c.all.ensures.ran (YieldsList-from_first (λ x. x) (λ rest. rest) _ c.parents.ensures)
    (λ x b q k. search (rules, tests))
    ∙ sym (all_in_has (block_of g.B.Library.what c.args.self.now).parents c.args.names.now)
