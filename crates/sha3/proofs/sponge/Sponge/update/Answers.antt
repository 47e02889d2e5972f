use Rattle.std.proofs.Common.{◌≡◌, ◌+◌, ◌<◌, length, sym, refl, ap, ◌∙◌, arith, length-append}
use Rattle.std.specs.Slice.Iter.{chunks_rest, chunks_size}
use Rattle.sha3.specs.Sponge.{zeros}
use Rattle.sha3.specs.Feeding.{feeding, Holds}
use Rattle.sha3.proofs.Feeding.{feeding-++, fed_block, fed_none, filled}
use Rattle.sha3.proofs.sponge.Sponge.update.Goals as goal

pub loop-block-init : goal.loop-block-init
loop-block-init c =
    let self = c.args.self.now in
    let head = c.split_at.result.0.now in
    let it = c.into_iter-block-iterator.result in
    let rest : chunks_rest it ≡ c.split_at.result.1.now
    = ap chunks_rest c.into_iter-block-iterator.ensures.into_iter_gives ∙ c.chunks-block-items.ensures.rest in
    record {
      same_rate = c.fill.ensures.kept.0;
      same_suffix = c.fill.ensures.kept.1;
      size =
          ap chunks_size c.into_iter-block-iterator.ensures.into_iter_gives ∙ c.chunks-block-items.ensures.size ∙ c.fill.ensures.kept.0;
      same_end = refl;
      begins = λ some.
          let more : 0 < length c.split_at.result.1.now = omega (arith, ap (λ t. length t) rest) in
          let full : self.at + length head ≡ self.rate
          = omega (arith, self.has_room, c.min.ensures, c.split_at.ensures.front_len, c.split_at.ensures.back_len) in
          filled self.rate self.state c.fill.new.self.state self.at c.fill.new.self.at head c.fill.ensures.fed self.has_room full;
    }

pub loop-block-preserved : goal.loop-block-preserved
loop-block-preserved c =
    let self = c.loop-block.self in
    let r = c.args.self.now.rate in
    let block = c.in-Some.block.now in
    let rest = chunks_rest c.next.new.self in
    let steps = c.in-Some.ensures.steps in
    let same : self.rate ≡ r = c.loop-block.invariant.same_rate in
    let fed : (c.fill-in-loop-block.new.self.state, c.fill-in-loop-block.new.self.at) ≡ feeding r (self.state, self.at) block
    = c.fill-in-loop-block.ensures.fed ∙ ap (λ k. feeding k (self.state, self.at) block) same in
    record {
      same_rate = c.fill-in-loop-block.ensures.kept.0 ∙ same;
      same_suffix = c.fill-in-loop-block.ensures.kept.1 ∙ c.loop-block.invariant.same_suffix;
      size = steps.0 ∙ c.loop-block.invariant.size;
      same_end =
          c.loop-block.invariant.same_end
          ∙ fed_block r self.state c.fill-in-loop-block.new.self.state self.at c.fill-in-loop-block.new.self.at
          (chunks_rest c.loop-block.block-iterator) block rest steps.1.0 fed;
      begins = λ some.
          let first : self.at ≡ 0 = c.loop-block.invariant.begins steps.1.2 in
          let sum : length (chunks_rest c.loop-block.block-iterator) ≡ length block + length rest
          = ap (λ t. length t) steps.1.0 ∙ length-append block rest in
          let full : self.at + length block ≡ r = omega (arith, steps.1.1, c.loop-block.invariant.size) in
          let open-block : self.at < r = omega (arith, self.has_room) in
          filled r self.state c.fill-in-loop-block.new.self.state self.at c.fill-in-loop-block.new.self.at block fed open-block full;
    }

pub returns : goal.returns
unfolding Holds
returns c =
    let self = c.args.self.now in
    let r = self.rate in
    let bytes = c.args.bytes.now in
    let rest = c.split_at.result.1.now in
    let it = c.into_iter-block-iterator.result in
    let is_rest : chunks_rest it ≡ rest
    = ap chunks_rest c.into_iter-block-iterator.ensures.into_iter_gives ∙ c.chunks-block-items.ensures.rest in
    record {
      kept = (c.loop-block.invariant.same_rate, c.loop-block.invariant.same_suffix);
      fed = λ fed h.
          sym (fed_none r (c.loop-block.self.state, c.loop-block.self.at) (chunks_rest c.loop-block.block-iterator) c.in-None.ensures.steps.1.0)
          ∙ sym c.loop-block.invariant.same_end
          ∙ ap (feeding r (c.fill.new.self.state, c.fill.new.self.at)) is_rest
          ∙ sym (fed_block r self.state c.fill.new.self.state self.at c.fill.new.self.at bytes c.split_at.result.0.now rest
          c.split_at.ensures.by_index.0 c.fill.ensures.fed)
          ∙ ap (λ g. feeding r g bytes) h
          ∙ sym (feeding-++ r (zeros, 0) fed bytes);
    }
