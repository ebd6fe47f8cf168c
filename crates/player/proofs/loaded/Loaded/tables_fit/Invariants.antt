use Rattle.std.proofs.Common.{◌≡◌}
use Rattle.faults.specs.declared.causes.StageCause.TheVariants.{OtherTable}
use Rattle.machine.specs.Calls.{each_port, table_fits}
use Rattle.machine.specs.Player.{begun}
use Rattle.player.specs.Loaded.{held}
use Rattle.player.proofs.EachPort.{tried}
use Rattle.player.proofs.loaded.Loaded.tables_fit.Given as goal

abbrev pub invariant-loop-port : goal.invariant-loop-port
invariant-loop-port g l =
    let test = table_fits (begun (held l.self)) in
    each_port OtherTable test 0 (g.R.Rig.ports l.rig) ≡ tried OtherTable test (g.R.Rig.ports l.rig) l.port
