use Rattle.model.specs.Member.{signable, after_sign}
use Rattle.model.specs.Seat.{full_signed}
use Rattle.rehearsal.proofs.Sitting.{found, stepped}
use Rattle.rehearsal.proofs.seats.Seats.sign.Goals as goal

pub returns-clause-steps : goal.returns-clause-steps
returns-clause-steps g c ms sit =
    let seat = found _ c.args.member c.get_mut.result c.in_ok-seat.seat c.in_ok-seat.ensures.ok_part c.get_mut.ensures.item.0 c.get_mut.ensures.value in
    let told = c.sign.ensures in
    stepped ms _ sit c.args.member seat.0 c.in_ok-seat.seat.now c.sign.new.self seat.1 (λ i m. signable c.args.faults.f (g.B.Library.what c.args.book.now) c.args.genuine c.args.name m) full_signed (after_sign c.args.name) _ told.answers told.holds told.number
