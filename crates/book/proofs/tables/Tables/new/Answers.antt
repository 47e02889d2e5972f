use Rattle.std.proofs.Common.{arith}
use Rattle.book.specs.Memory.{parents_of_all, bytes_of_all}
use Rattle.book.proofs.tables.Tables.new.Goals as goal

pub invariant_of-result : goal.invariant_of-result
unfolding parents_of_all bytes_of_all
invariant_of-result c =
    rw (c.new.ensures.empty, c.new-2.ensures.empty, c.new-3.ensures.empty) (record {
      few = omega arith;
      parents_filled = omega arith;
      few_parents = omega arith;
      loads_filled = omega arith;
      short_loads = omega arith;
      placed = λ i h. (omega arith, omega arith);
    })
