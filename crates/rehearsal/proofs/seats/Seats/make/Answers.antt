use Rattle.model.specs.Member.{makable, after_make}
use Rattle.model.specs.Seat.{full_round}
use Rattle.rehearsal.proofs.Sitting.{found, stepped}
use Rattle.rehearsal.proofs.seats.Seats.make.Goals as goal

pub returns : goal.returns
returns g c ms sit =
    let seat = found _ c.args.member c.get_mut.result c.in_ok-seat.seat c.in_ok-seat.ensures.ok_part c.get_mut.ensures.item.0 c.get_mut.ensures.value in
    let told = c.make.ensures in
    stepped ms _ sit c.args.member seat.0 c.in_ok-seat.seat.now c.make.new.self seat.1 (λ i m. makable c.args.faults.f (g.B.Library.what c.args.book.now) i c.args.name m) full_round after_make _ told.answers told.holds told.number
