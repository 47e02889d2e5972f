use Rattle.std.proofs.Common.{ℕ, ◌<◌, sym, subst, arith}
use lib.Bits.{bit_or}
use Rattle.members.specs.Sets.{Adds}
use Rattle.members.proofs.Sets.{holds_more, shifted}
use Rattle.members.proofs.MemberSet.insert.Goals as goal

pub returns : goal.returns
returns c =
    let member = c.args.member in
    let bits = c.args.self.now.bits in
    let small : member < 64 = omega arith in
    (small, subst (λ (x : ℕ). Adds member bits (bit_or bits x)) (sym (shifted member small)) (holds_more member bits small))
