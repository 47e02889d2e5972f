use Rattle.std.proofs.Common.{◌≡◌, ◌+◌, get_or, sym, ◌∙◌, arith, rules}
use Rattle.order_bench.proofs.Stretch.{inner_at, outer_at}
use Rattle.order_bench.proofs.parent_at.Goals as goal

pub returns-then-place-block : goal.returns-then-place-block
returns-then-place-block c =
    let block = c.args.block in
    let e : c.unwrap_or.result ≡ get_or c.args.all.now (block.start + c.args.place) 0 = search rules in
    e ∙ sym (inner_at block.start block.count c.args.place c.args.all.now (omega arith))

pub returns-else-place-block : goal.returns-else-place-block
returns-else-place-block c =
    let block = c.args.block in sym (outer_at block.start block.count c.args.place c.args.all.now (omega arith))
