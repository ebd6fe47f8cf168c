use Rattle.std.proofs.Common.{◌≤◌, ◌*◌}
use Rattle.player.specs.Loaded.{held}
use Rattle.player.specs.Seen.{seen}
use Rattle.player.proofs.Retreating.{Exiting}
use Rattle.player.proofs.stage.Stage.fault_exit.Given as goal

abbrev pub invariant-loop-port : goal.invariant-loop-port
invariant-loop-port g l =
    let s = held l.loaded in
    record {
      exiting : Exiting (seen s l.initial.self) (g.R.Rig.ports l.initial.rig) l.initial.log l.sent l.port l.port-end (seen s l.self) (g.R.Rig.ports l.rig) l.log;
      few : l.sent ≤ 15 * l.port;
      eight : l.port-end ≤ 8;
    }
