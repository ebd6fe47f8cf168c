use Rattle.std.proofs.Common.{◌≡◌, ◌&&◌, Bool, nat_eq, ℕ}
use Rattle.faults.specs.declared.causes.StageCause.TheVariants.{RigChanged}
use Rattle.device.specs.Meaning.{Meaning}
use Rattle.machine.specs.Calls.{each_port, table_fits}
use Rattle.machine.specs.Player.{Player, kept}
use Rattle.player.specs.Loaded.{held}
use Rattle.player.specs.Seen.{seen}
use Rattle.player.proofs.EachPort.{tried}
use Rattle.player.proofs.stage.Stage.rig_kept.Given as goal

abbrev pub invariant-loop-port : goal.invariant-loop-port
invariant-loop-port g l =
    let p : Player = seen (held l.loaded) l.self in
    let test : ℕ → Meaning → Bool = λ i m. table_fits p i m && nat_eq m.station (kept p i) in
    each_port RigChanged test 0 (g.R.Rig.ports l.rig) ≡ tried RigChanged test (g.R.Rig.ports l.rig) l.port
