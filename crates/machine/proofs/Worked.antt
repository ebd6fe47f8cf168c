-- The worked examples, by computation.
use Rattle.std.proofs.Common.{refl}
use Rattle.protocol.specs.Tables.{same_table}
use Rattle.machine.specs.Examples.{Examples}
use Rattle.machine.specs.Refusals.{Refusals}

pub worked : Examples
unfolding same_table
worked = record {
  there_and_back = refl;
  third_answer = refl;
  fails_held = refl;
  counts_down = refl;
  short_budget = refl;
  just_enough = refl;
  cued = refl;
  crossed = refl;
  struck_held = refl;
  not_returned = refl;
  unsure = refl;
  empty_block = refl;
  rank_stays = refl;
}

pub refused : Refusals
unfolding same_table
refused = record {
  not_over = refl;
  other_count = refl;
  no_script = refl;
  other_table = refl;
  not_away = refl;
  over_go = refl;
  over_strike = refl;
  no_budget = refl;
  large_budget = refl;
  short_log = refl;
  short_strike = refl;
  other_ports = refl;
  moved_on = refl;
  no_port = refl;
  past_ports = refl;
}
