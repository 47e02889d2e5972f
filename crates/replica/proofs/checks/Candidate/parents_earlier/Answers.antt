use Rattle.std.proofs.Common.{rules, tests, ltb, ◌∙◌, sym}
use Rattle.std.proofs.lemmas.Iterator.Consumers.{YieldsList-from_first}
use Rattle.std.proofs.lemmas.Iterator.Search.{all_from_yields_List}
use Rattle.replica.specs.Candidates.{book_of, block_of}
use Rattle.replica.proofs.Lists.{earlier_all}
use Rattle.replica.proofs.checks.Candidate.parents_earlier.Goals as goal

pub returns : goal.returns
returns g c =
    let b = book_of g.B.Library.what c.args.self.now in
    let block = block_of g.B.Library.what c.args.self.now in
    all_from_yields_List (λ x. ltb (b x).round block.round) _ _ _ c.all.ensures.ran
    (YieldsList-from_first (λ x. x) (λ rest. rest) _ c.parents.ensures) (λ x b q k. search (rules, tests))
    ∙ sym (earlier_all b block.round block.parents)
