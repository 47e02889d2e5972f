use Rattle.std.proofs.Common.{◌≡◌, ◌+◌, ◌-◌, ◌*◌, ◌/◌, ◌%◌, ◌⊎◌, length, inl, inr, ⊎_elim, arith}
use Rattle.std.proofs.lemmas.Bool.{cases_lt}
use Rattle.sha3.proofs.Bytes.{three_pieces}
use Rattle.sha3.proofs.sponge.add_bytes.Goals as goal

-- What stands before the first whole lane, the lanes, and what stands after them.
pub returns : goal.returns
returns c =
    let at = c.args.at in
    let bytes = c.args.bytes.now in
    let gap = (8 - at % 8) % 8 in
    let head = c.split_at.result.0.now in
    let lanes = c.split_at-2.result.0.now in
    let end = at + length head in
    let lane : (length lanes ≡ 0) ⊎ (end ≡ 8 * (end / 8))
    = ⊎_elim
    (λ more. inr (omega (arith, c.min.ensures, c.split_at.ensures.front_len)))
    (λ few. inl (omega (arith, c.min.ensures, c.split_at.ensures.back_len, c.split_at-2.ensures.front_len)))
    (cases_lt gap (length bytes)) in
    three_pieces c.args.state.now at (end / 8) bytes head c.split_at.result.1.now lanes c.split_at-2.result.1.now
    c.add_singly.new.state c.add_lanes.new.state c.add_singly-2.new.state
    c.split_at.ensures.by_index.0 c.split_at-2.ensures.by_index.0 lane c.add_singly.ensures c.add_lanes.ensures c.add_singly-2.ensures
