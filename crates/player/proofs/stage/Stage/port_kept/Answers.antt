use Rattle.std.proofs.Common.{Bool, ◌&&◌, eqb, sym, ap, ◌∙◌}
use Rattle.device.specs.Ports.{station_at}
use Rattle.machine.specs.Player.{kept}
use Rattle.player.specs.Loaded.{held}
use Rattle.player.specs.Seen.{seen}
use Rattle.player.proofs.stage.Stage.port_kept.Goals as goal

pub returns-then-table_fits : goal.returns-then-table_fits
returns-then-table_fits g c =
    let a = c.args in
    let stands : Bool = eqb (station_at (g.R.Rig.ports a.rig.now) a.port) (kept (seen (held a.loaded.now) a.self.now) a.port) in
    (λ j. eqb (c.station.ensures j) (c.station-then-table_fits.ensures j)) ∙ ap (λ b. b && stands) (sym c.if-table_fits.true ∙ c.table_fits.ensures)

pub returns-else-table_fits : goal.returns-else-table_fits
returns-else-table_fits g c =
    let a = c.args in
    let stands : Bool = eqb (station_at (g.R.Rig.ports a.rig.now) a.port) (kept (seen (held a.loaded.now) a.self.now) a.port) in
    c.if-table_fits.false ∙ ap (λ b. b && stands) (sym c.if-table_fits.false ∙ c.table_fits.ensures)
