use Rattle.std.proofs.Common.{◌≡◌, replicate}
use Rattle.player.proofs.stage.all_away.Given as goal

abbrev pub invariant-loop : goal.invariant-loop
invariant-loop l = l.stations.items ≡ replicate l.counter 0
