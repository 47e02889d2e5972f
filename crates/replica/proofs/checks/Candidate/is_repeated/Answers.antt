use Rattle.std.proofs.Common.{rules, tests, ◌+◌, ◌-◌, eqb, length, get_or, ◌∙◌, sym, refl, arith}
use Rattle.std.proofs.lemmas.Iterator.{YieldsList-from_range}
use Rattle.std.proofs.lemmas.Iterator.Search.{any_from_yields_List}
use Rattle.replica.specs.Candidates.{block_of}
use Rattle.replica.proofs.Lists.{is_in_places}
use Rattle.replica.proofs.checks.Candidate.is_repeated.Goals as goal

pub returns : goal.returns
returns g c =
    let parents = (block_of g.B.Library.what c.args.self.now).parents in
    let left = length parents - (c.args.at + 1) in
    any_from_yields_List (λ later. eqb (get_or parents later 0) (get_or parents c.args.at 0)) _ _ _ c.any.ensures.ran
    (YieldsList-from_range (c.args.at + 1) (length parents) left (search rules) refl)
    (λ x b q k. search (rules, tests))
    ∙ sym (is_in_places (get_or parents c.args.at 0) parents (c.args.at + 1) left (omega arith))
