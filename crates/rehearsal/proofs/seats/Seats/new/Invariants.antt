use Rattle.std.proofs.Common.{vec_items}
use Rattle.model.specs.World.{new_members}
use Rattle.rehearsal.specs.Seated.{Sit}
use Rattle.rehearsal.proofs.seats.Seats.new.Given as goal

abbrev pub invariant-loop-i : goal.invariant-loop-i
invariant-loop-i l = Sit (new_members l.i) (vec_items l.seats)
