use Rattle.std.proofs.Common.{ℕ, Bool, ◌&&◌, eqb, Err, sym, ap, ◌∙◌, arith}
use Rattle.faults.specs.declared.causes.StageCause.TheVariants.{RigChanged}
use Rattle.faults.proofs.Results.{met}
use Rattle.protocol.proofs.Tests.{equal_numbers}
use Rattle.device.specs.Meaning.{Meaning}
use Rattle.machine.specs.Calls.{table_fits}
use Rattle.machine.specs.Player.{Player, kept}
use Rattle.player.specs.Loaded.{held}
use Rattle.player.specs.Seen.{seen}
use Rattle.player.proofs.EachPort.{kept_there, port_stops, port_passes}
use Rattle.player.proofs.stage.Stage.rig_kept.Goals as goal

pub returns-then-not-port_kept : goal.returns-then-not-port_kept
returns-then-not-port_kept g c =
    let p : Player = seen (held c.args.loaded.now) c.args.self.now in
    let test : ℕ → Meaning → Bool = λ i m. table_fits p i m && eqb m.station (kept p i) in
    ap Err c.at-then-not-port_kept.ensures
    ∙ sym (met _ _ _ (equal_numbers (sym c.len.ensures.value ∙ c.if-len-ports.false ∙ c.count-ports.ensures))
    ∙ c.loop-port.invariant
    ∙ port_stops RigChanged test _ _ (omega arith) (λ w. kept_there w p ∙ sym c.port_kept.ensures ∙ c.if-not-port_kept.true))

pub loop-port-preserved : goal.loop-port-preserved
loop-port-preserved g c =
    let p : Player = seen (held c.args.loaded.now) c.args.self.now in
    let test : ℕ → Meaning → Bool = λ i m. table_fits p i m && eqb m.station (kept p i) in
    c.loop-port.invariant ∙ port_passes RigChanged test (g.R.Rig.ports c.args.rig.now) c.loop-port.port (omega arith) (λ w. kept_there w p ∙ sym c.port_kept.ensures ∙ c.if-not-port_kept.false)
