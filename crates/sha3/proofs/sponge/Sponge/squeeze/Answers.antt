use Rattle.std.proofs.Common.{◌≡◌, ◌<◌, ◌≤◌, List, ℕ, length, refl, ◌∙◌, subst, arith}
use Rattle.sha3.specs.Keccak.{keccak}
use Rattle.sha3.specs.Sponge.{bytes_of, squeezed}
use Rattle.sha3.proofs.Feeding.{length-keccak}
use Rattle.sha3.proofs.Squeezing.{Left, left_all, left_block, left_byte, length-bytes_of}
use Rattle.sha3.proofs.sponge.Sponge.squeeze.Goals as goal
use Rattle.sha3.proofs.sponge.Sponge.squeeze.Goals.{then-at-self, else-at-self}

pub loop-byte-init : goal.loop-byte-init
loop-byte-init c =
    let self = c.args.self.now in
    let some : 0 < self.rate = omega (arith, self.has_room) in
    record {
      same_rate = refl;
      within = omega arith;
      lanes = λ h. absurd (omega arith);
      left = left_all self.rate c.args.out.now self.state some;
    }

pub loop-byte-preserved : goal.loop-byte-preserved
loop-byte-preserved c =
    let r = c.args.self.now.rate in
    let i = c.loop-byte.byte-index in
    let out = c.loop-byte.out in
    let s = c.loop-byte.self.state in
    let all : List ℕ = squeezed r (length c.args.out.now) (keccak c.args.self.now.state) in
    let more : i < length out = omega (arith, c.loop-byte-test.true, c.loop-byte.auto.out) in
    let same : c.loop-byte.self.rate ≡ r = c.loop-byte.invariant.same_rate in
    let ready : (c.if-at-self.self.rate ≡ r) × (c.if-at-self.at < r) × (length c.if-at-self.self.state ≡ 25)
    × Left r all i c.if-at-self.at out c.if-at-self.self.state
    = elim c.if-at-self.branch [
      | then-at-self w ↦
          let full : c.loop-byte.at ≡ r = w.if-at-self.true ∙ same in
          let next : Left r all i 0 out (keccak s)
          = left_block r i all out s more (subst (λ k. Left r all i k out s) full c.loop-byte.invariant.left) in
          rw (w.self-is, w.at-is, w.permute.ensures) (same, omega arith, length-keccak s, next)
      | else-at-self w ↦
          let open-block : c.loop-byte.at < r = omega (arith, w.if-at-self.false, c.loop-byte.invariant.within) in
          rw (w.self-is, w.at-is) (same, open-block, c.loop-byte.invariant.lanes open-block, c.loop-byte.invariant.left)
    ] in
    let long : r ≤ length (bytes_of c.if-at-self.self.state)
    = omega (arith, length-bytes_of c.if-at-self.self.state, ready.2, c.args.self.now.block_fits) in
    record {
      same_rate = ready.0;
      within = omega (arith, ready.1);
      lanes = λ h. ready.2;
      left = left_byte r i c.if-at-self.at c.byte_of.result all out c.if-at-self.self.state more ready.1 long c.byte_of.ensures ready.3;
    }
