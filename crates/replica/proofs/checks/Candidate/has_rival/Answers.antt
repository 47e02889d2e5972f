use Rattle.std.proofs.Common.{rules, tests, ◌&&◌, not, eqb, ◌∙◌, sym}
use Rattle.std.proofs.lemmas.Iterator.{YieldsList-from_slice}
use Rattle.std.proofs.lemmas.Iterator.Search.{any_from_yields_List}
use Rattle.replica.specs.Candidates.{book_of}
use Rattle.replica.proofs.Lists.{rival_any}
use Rattle.replica.proofs.checks.Candidate.has_rival.Goals as goal

pub returns : goal.returns
returns g c =
    let b = book_of g.B.Library.what c.args.self.now in
    let x = c.args.self.now.name in
    any_from_yields_List (λ y. not (eqb x y) && eqb (b x).author (b y).author && eqb (b x).round (b y).round) _ _ _ c.any.ensures.ran
    (YieldsList-from_slice c.args.names.now cc) (λ y b q k. search (rules, tests))
    ∙ sym (rival_any b x c.args.names.now)
