use Rattle.std.proofs.Common.{Err, sym, ap, ◌∙◌, arith}
use Rattle.faults.specs.declared.causes.StageCause.TheVariants.{OtherTable}
use Rattle.machine.specs.Calls.{table_fits}
use Rattle.machine.specs.Player.{begun}
use Rattle.player.specs.Loaded.{held}
use Rattle.player.proofs.EachPort.{table_there, port_stops, port_passes}
use Rattle.player.proofs.loaded.Loaded.tables_fit.Goals as goal

pub returns-then-not-table_fits : goal.returns-then-not-table_fits
returns-then-not-table_fits g c =
    let p = begun (held c.args.self.now) in
    ap Err c.at.ensures
    ∙ sym (c.loop-port.invariant ∙ port_stops OtherTable (table_fits p) _ _ (omega arith) (λ w. table_there w p ∙ sym c.table_fits.ensures ∙ c.if-not-table_fits.true))

pub loop-port-preserved : goal.loop-port-preserved
loop-port-preserved g c =
    let p = begun (held c.args.self.now) in
    c.loop-port.invariant ∙ port_passes OtherTable (table_fits p) (g.R.Rig.ports c.args.rig.now) c.loop-port.port (omega arith) (λ w. table_there w p ∙ sym c.table_fits.ensures ∙ c.if-not-table_fits.false)
