-- The worked examples, by computation.
use Rattle.std.proofs.Common.{refl}
use Rattle.rules.specs.Examples.{Examples}

pub worked : Examples
worked = record {
  house = refl;
  rank_stays = refl;
  no_script = refl;
  there_and_back = refl;
  each_answer = refl;
  fails_half_way = refl;
  counts_down = refl;
  crossed = refl;
  sixteen_parts = refl;
  eight_deep = refl;
  too_long = refl;
  no_part = refl;
  seventeen_parts = refl;
  cut_short = refl;
  runs_itself = refl;
  too_deep = refl;
  returned_twice = refl;
  unsure = refl;
  undeclared = refl;
  empty_block = refl;
  grants_again = refl;
  bound_twice = refl;
  not_granted = refl;
  not_returned = refl;
  main_held = refl;
}
