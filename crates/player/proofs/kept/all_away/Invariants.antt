use Rattle.std.proofs.Common.{◌≡◌, Bool, nat_eq, ℕ}
use Rattle.faults.specs.declared.causes.StageCause.TheVariants.{NotAway}
use Rattle.device.specs.Meaning.{Meaning}
use Rattle.machine.specs.Calls.{each_port}
use Rattle.player.proofs.EachPort.{tried}
use Rattle.player.proofs.kept.all_away.Given as goal

abbrev pub invariant-loop-port : goal.invariant-loop-port
invariant-loop-port g l =
    let test : ℕ → Meaning → Bool = λ i m. nat_eq m.station 0 in
    each_port NotAway test 0 (g.R.Rig.ports l.rig) ≡ tried NotAway test (g.R.Rig.ports l.rig) l.port
