use Rattle.model.specs.Blocks.{authors_at}
use Rattle.replica.specs.Candidates.{book_of, block_of}
use Rattle.replica.proofs.Authors.{Walked}
use Rattle.replica.proofs.checks.Candidate.authors_at.Given as goal

abbrev pub invariant-loop-parent : goal.invariant-loop-parent
invariant-loop-parent g l =
    let authors = authors_at l.faults.f (book_of g.B.Library.what l.self) l.round in
    Walked l.authors.bits (authors (block_of g.B.Library.what l.self).parents) (authors l.parent-iterator)
