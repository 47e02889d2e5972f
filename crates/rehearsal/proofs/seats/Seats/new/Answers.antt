use Rattle.std.proofs.Common.{vec_items}
use Rattle.rehearsal.proofs.Sitting.{sit_none, sit_push}
use Rattle.rehearsal.proofs.seats.Seats.new.Goals as goal

pub loop-i-init : goal.loop-i-init
loop-i-init c = sit_none (vec_items c.new-seats.result) c.new-seats.ensures.items

pub loop-i-preserved : goal.loop-i-preserved
loop-i-preserved c =
    sit_push c.loop-i.i (vec_items c.loop-i.seats) (vec_items c.push.new.self) c.fresh.result c.loop-i.invariant
    c.fresh.ensures.holds c.fresh.ensures.number c.in_ok-push.ensures.items
