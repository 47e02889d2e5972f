use mathlib.Core.Path.{ap, sym, ◌∙◌}
use lib.ListN.{get_or, drop}
use Rattle.order_bench.specs.Slices.{no_entry}
use Rattle.order_bench.proofs.Stretch.{padded-length}
use Rattle.order_bench.proofs.SlicesLibrary.parents.Goals as goal

pub returns : goal.returns
returns c =
    let e = get_or c.args.self.now.entries.now c.args.name no_entry in
    ap (λ e. e.count) c.entry_of.ensures ∙ sym (padded-length e.count (drop e.start c.args.self.now.all.now))
