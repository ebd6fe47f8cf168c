use Rattle.std.proofs.Common.{ap, arith}
use Rattle.machine.specs.Player.{Player}
use Rattle.player.specs.Loaded.{held}
use Rattle.player.specs.Seen.{seen}
use Rattle.player.proofs.Leaving.{all_left}
use Rattle.player.proofs.Retreating.{exited, exits_more}
use Rattle.player.proofs.stage.Stage.fault_exit.Goals as goal

pub loop-port-preserved : goal.loop-port-preserved
loop-port-preserved g c =
    let s = held c.args.loaded.now in
    record {
      exiting = exits_more (seen s c.args.self.now) (g.R.Rig.ports c.args.rig.now) c.args.log.now c.loop-port.sent c.loop-port.port c.len-port-end.result
          (seen s c.loop-port.self) (g.R.Rig.ports c.loop-port.rig) c.loop-port.log c.loop-port.invariant.exiting (omega arith) c.withdraw-sent.ensures.told;
      few = omega arith;
      eight = c.loop-port.invariant.eight;
    }

pub returns-clause-told : goal.returns-clause-told
returns-clause-told g c =
    let s = held c.args.loaded.now in
    exited (seen s c.args.self.now) (g.R.Rig.ports c.args.rig.now) c.args.log.now c.loop-port.sent c.loop-port.port c.len-port-end.result
    (seen s c.loop-port.self) (g.R.Rig.ports c.loop-port.rig) c.loop-port.log c.loop-port.invariant.exiting (omega arith) (c.finish.ensures s)

pub returns-clause-room : goal.returns-clause-room
returns-clause-room g c =
    let s = held c.args.loaded.now in
    all_left s (ap (λ (p : Player). p.frames) (c.finish.ensures s))
