use Rattle.std.proofs.Common.{eqb, Err, sym, ap, ◌∙◌, arith}
use Rattle.faults.specs.declared.causes.StageCause.TheVariants.{NotAway}
use Rattle.protocol.proofs.Tests.{other_numbers}
use Rattle.player.proofs.EachPort.{station_there, port_stops}
use Rattle.player.proofs.kept.all_away.Goals as goal

pub returns-then-station-ne-AWAY : goal.returns-then-station-ne-AWAY
returns-then-station-ne-AWAY g c =
    ap Err c.at.ensures
    ∙ sym (c.loop-port.invariant
    ∙ port_stops NotAway (λ i m. eqb m.station 0) _ _ (omega arith) (λ w. station_there w 0 ∙ other_numbers _ 0 (λ e. c.if-station-ne-AWAY.true (c.station.ensures ∙ e))))
