-- The main promise, put together from its parts. Assumes nothing.
use Rattle.model.specs.Promise.{MainPromise}
use Rattle.model.proofs.Safety.{signs_one, takes_one, one_certified, webs_whole, orders_agree, orders_grow, nothing_twice, nothing_forged, causes_first}
use Rattle.model.proofs.NoDeadEnd.{no_dead_end}

pub main_promise : MainPromise
main_promise = record {
  signs_one = signs_one;
  takes_one = takes_one;
  one_certified = one_certified;
  webs_whole = webs_whole;
  orders_agree = orders_agree;
  orders_grow = orders_grow;
  nothing_twice = nothing_twice;
  nothing_forged = nothing_forged;
  causes_first = causes_first;
  no_dead_end = no_dead_end;
}
