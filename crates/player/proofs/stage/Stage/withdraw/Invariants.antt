use Rattle.std.proofs.Common.{◌-◌}
use Rattle.machine.specs.Exits.{withdraw}
use Rattle.player.specs.Loaded.{held}
use Rattle.player.specs.Seen.{seen}
use Rattle.player.proofs.Coming.{Coming}
use Rattle.player.proofs.stage.Stage.withdraw.Given as goal

abbrev pub invariant-loop-sent : goal.invariant-loop-sent
invariant-loop-sent g l =
    let s = held l.loaded in
    Coming (withdraw 15 l.port (seen s l.initial.self)) (g.R.Rig.ports l.initial.rig) l.initial.log l.sent (withdraw (15 - l.sent) l.port (seen s l.self)) (g.R.Rig.ports l.rig) l.log
