use Rattle.std.proofs.Common.{◌≡◌, ◌<◌, length}
use Rattle.std.specs.Slice.Iter.{chunks_rest, chunks_size}
use Rattle.sha3.specs.Feeding.{feeding}
use Rattle.sha3.proofs.sponge.Sponge.update.Given as goal

-- What is left to feed leads to the same end, and begins with a block.
abbrev pub invariant-loop-block : goal.invariant-loop-block
invariant-loop-block l = record {
  same_rate : l.self.rate ≡ l.fn.self.rate;
  same_suffix : l.self.suffix ≡ l.fn.self.suffix;
  size : chunks_size l.block-iterator ≡ l.fn.self.rate;
  same_end :
      feeding l.fn.self.rate (l.initial.self.state, l.initial.self.at) (chunks_rest l.initial.block-iterator)
      ≡ feeding l.fn.self.rate (l.self.state, l.self.at) (chunks_rest l.block-iterator);
  begins : 0 < length (chunks_rest l.block-iterator) → l.self.at ≡ 0;
}
