use Rattle.std.proofs.Common.{◌-◌}
use Rattle.player.specs.Loaded.{held}
use Rattle.player.specs.Room.{Room}
use Rattle.player.specs.Seen.{seen}
use Rattle.player.proofs.Onward.{Onward}
use Rattle.player.proofs.stage.Stage.go_on.Given as goal

abbrev pub invariant-loop-self : goal.invariant-loop-self
invariant-loop-self g l =
    let s = held l.loaded in
    record {
      onward : Onward l.n (seen s l.initial.self) (g.R.Rig.ports l.initial.rig) l.initial.log l.steps l.letters (seen s l.self) (g.R.Rig.ports l.rig) l.log;
      room : Room s l.self;
    }

abbrev pub decreases-loop-self : goal.decreases-loop-self
decreases-loop-self g l = l.n - l.steps
