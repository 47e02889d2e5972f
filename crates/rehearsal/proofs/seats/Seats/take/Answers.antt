use Rattle.model.specs.Member.{takable, after_take}
use Rattle.model.specs.Seat.{full_web}
use Rattle.rehearsal.proofs.Sitting.{found, stepped}
use Rattle.rehearsal.proofs.seats.Seats.take.Goals as goal

pub returns : goal.returns
returns g c ms sit =
    let seat = found _ c.args.member c.get_mut.result c.in_ok-seat.seat c.in_ok-seat.ensures.ok_part c.get_mut.ensures.item.0 c.get_mut.ensures.value in
    let told = c.take.ensures in
    stepped ms _ sit c.args.member seat.0 c.in_ok-seat.seat.now c.take.new.self seat.1 (λ i m. takable (g.B.Library.what c.args.book.now) c.args.certified c.args.name m) full_web (after_take c.args.name) _ told.answers told.holds told.number
