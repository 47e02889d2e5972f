use Rattle.std.proofs.Common.{◌≡◌, fold, max, rules, arith}
use Rattle.order_theory.proofs.Steps.{last_round_is}
use Rattle.order.proofs.last_round.Goals as goal

pub returns : goal.returns
returns g c =
    let b = g.B.Library.what c.args.book.now in
    let e : c.fold.result ≡ fold (λ a x. max a (b x).round) 0 c.args.web.now = search rules in
    omega (arith, e, last_round_is b c.args.web.now 0)
