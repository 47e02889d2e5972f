use Rattle.std.proofs.Common.{rules, ◌≡◌, [], ◌∷◌, sym, arith}
use Rattle.model.specs.Blocks.{authors_at}
use Rattle.replica.specs.Candidates.{book_of, block_of}
use Rattle.replica.proofs.Authors.{begun, put_in, left_out, ended, small, not_refused}
use Rattle.replica.proofs.checks.Candidate.authors_at.Goals as goal

pub loop-parent-init : goal.loop-parent-init
loop-parent-init g c =
    let all : c.into_iter-parent-iterator.result ≡ (block_of g.B.Library.what c.args.self.now).parents = search rules in
    rw all (begun _ _ c.empty-authors.ensures.holds)

pub unwrap-requires : goal.unwrap-requires
unwrap-requires g c =
    let fits = small c.args.faults.f (book_of g.B.Library.what c.args.self.now) c.args.round c.in-Some.parent c.args.faults.few (sym c.if-is_members_at.ensures) in
    (not_refused c.insert.result _ _ c.insert.ensures (λ q. omega arith)).0

pub loop-parent-preserved-then-is_members_at : goal.loop-parent-preserved-then-is_members_at
loop-parent-preserved-then-is_members_at g c =
    let f = c.args.faults.f in
    let b = book_of g.B.Library.what c.args.self.now in
    let next : c.loop-parent.parent-iterator ≡ c.in-Some.parent ∷ c.next.new.self = search rules in
    let fits = small f b c.args.round c.in-Some.parent c.args.faults.few (sym c.if-is_members_at.ensures) in
    let adds = (not_refused c.insert.result _ _ c.insert.ensures (λ q. omega arith)).1.1 in
    put_in f b c.args.round c.in-Some.parent _ c.next.new.self _ (rw next at c.loop-parent.invariant) _ (sym c.if-is_members_at.ensures)
    (rw c.author.ensures at adds)

pub loop-parent-preserved : goal.loop-parent-preserved
loop-parent-preserved g c =
    let next : c.loop-parent.parent-iterator ≡ c.in-Some.parent ∷ c.next.new.self = search rules in
    left_out c.args.faults.f (book_of g.B.Library.what c.args.self.now) c.args.round c.in-Some.parent _ c.next.new.self _
    (rw next at c.loop-parent.invariant) (sym c.if-is_members_at.ensures)

pub returns : goal.returns
unfolding authors_at
returns g c =
    let none : c.loop-parent.parent-iterator ≡ [] = search rules in
    ended _ _ (rw none at c.loop-parent.invariant)
