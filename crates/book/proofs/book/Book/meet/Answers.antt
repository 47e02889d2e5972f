use Rattle.std.proofs.Common.{T, length, rules}
use Rattle.model.specs.Names.{all_below}
use Rattle.model.specs.Blocks.{within_limits}
use Rattle.book.specs.Meeting.{shown, Absent}
use Rattle.book.proofs.Filling.{within_more}
use Rattle.book.proofs.Growing.{apart_more, limited_more, earlier_more}
use Rattle.book.proofs.book.Book.meet.Goals as goal

pub invariant_of-self-clause-fits : goal.invariant_of-self-clause-fits
invariant_of-self-clause-fits c =
    let t = c.args.self.now.tables in
    rw (c.push.ensures.lent, c.push.ensures.grown) (within_more t.lent t.content (shown c.args.block) c.args.self.now.fits (search rules) (search rules) (search rules))

pub invariant_of-self-clause-apart : goal.invariant_of-self-clause-apart
invariant_of-self-clause-apart c =
    let b = c.args.self.now in
    let absent : Absent b.tables.content (shown c.args.block) = search rules in
    rw c.push.ensures.grown (apart_more b.tables.content (shown c.args.block) b.apart absent)

pub invariant_of-self-clause-limited : goal.invariant_of-self-clause-limited
invariant_of-self-clause-limited c =
    let b = c.args.self.now in
    let small : T (within_limits (shown c.args.block)) = search rules in
    rw c.push.ensures.grown (limited_more b.tables.content (shown c.args.block) b.limited small)

pub invariant_of-self-clause-earlier : goal.invariant_of-self-clause-earlier
invariant_of-self-clause-earlier c =
    let b = c.args.self.now in
    let there : T (all_below (length b.tables.content) (shown c.args.block).parents) = search rules in
    rw c.push.ensures.grown (earlier_more b.tables.content (shown c.args.block) b.earlier there)
