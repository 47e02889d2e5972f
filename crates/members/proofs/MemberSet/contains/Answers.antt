use Rattle.std.proofs.Common.{sym, ◌∙◌}
use Rattle.std.proofs.lemmas.Bool.{le-ltb}
use Rattle.members.specs.Sets.{limit}
use Rattle.members.proofs.Sets.{read_bit, not_in}
use Rattle.members.proofs.MemberSet.contains.Goals as goal

pub returns-then-member-lt-LIMIT : goal.returns-then-member-lt-LIMIT
returns-then-member-lt-LIMIT c = read_bit c.args.member c.args.self.now.bits

pub returns-else-member-lt-LIMIT : goal.returns-else-member-lt-LIMIT
returns-else-member-lt-LIMIT c xs h =
    le-ltb c.args.member limit c.if-member-lt-LIMIT.false
    ∙ sym (not_in c.args.member c.args.self.now.bits xs c.if-member-lt-LIMIT.false h)
