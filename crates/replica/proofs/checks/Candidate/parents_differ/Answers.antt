use Rattle.std.proofs.Common.{rules, tests, ◌+◌, not, drop, length, get_or, ◌∙◌, sym, arith}
use Rattle.std.proofs.lemmas.Iterator.{YieldsList-from_range}
use Rattle.std.proofs.lemmas.Iterator.Search.{all_from_yields_List}
use Rattle.model.specs.Names.{is_in}
use Rattle.replica.specs.Candidates.{block_of}
use Rattle.replica.proofs.Lists.{distinct_places}
use Rattle.replica.proofs.checks.Candidate.parents_differ.Goals as goal

pub returns : goal.returns
returns g c =
    let parents = (block_of g.B.Library.what c.args.self.now).parents in
    all_from_yields_List (λ at. not (is_in (get_or parents at 0) (drop (at + 1) parents))) _ _ _ c.all.ensures.ran
    (YieldsList-from_range 0 (length parents) (length parents) (search rules) (omega arith))
    (λ x b q k. search (rules, tests))
    ∙ sym (distinct_places parents 0 (length parents) (omega arith))
