use Rattle.std.proofs.Common.{◌≡◌, ℕ, Ok, Result, sym, ap, ◌∙◌, subst, length, refl}
use Rattle.faults.specs.declared.fault.Fault.{Fault}
use Rattle.device.specs.Ports.{Ports}
use Rattle.rules.specs.Script.{Script}
use Rattle.script.proofs.Turns.{passed}
use Rattle.script.specs.Held.{script_held}
use Rattle.machine.specs.Player.{Player, begun, main}
use Rattle.machine.specs.Calls.{Begins}
use Rattle.player.specs.Kept.{may_begin}
use Rattle.player.specs.View.{view}
use Rattle.player.proofs.Calling.{begins, refused}
use Rattle.player.proofs.player.Player.begin.Goals as goal

pub returns-in_err-fits : goal.returns-in_err-fits
returns-in_err-fits g c =
    let p : Player = view c.args.self.now in
    let s : Script = script_held c.args.script.now in
    let ports : Ports = g.R.Rig.ports c.args.rig.now in
    let count : (main s).handles ≡ length ports = sym c.ports.ensures ∙ c.if-ports.false ∙ c.count-ports.ensures in
    let e : Fault = c.in_err-fits.field-0.0 in
    let may = ap (λ x. may_begin x ports) (sym c.of-loaded.ensures) ∙ sym c.in_err-fits.ensures in
    subst (λ (r : Result ℕ Fault). Begins p s ports r p) (sym (passed _ _ c.from_residual.ensures.1)) (refused p s ports c.if-not-self.false count e may, refl)

pub returns : goal.returns
returns g c =
    let p : Player = view c.args.self.now in
    let s : Script = script_held c.args.script.now in
    let ports : Ports = g.R.Rig.ports c.args.rig.now in
    let count : (main s).handles ≡ length ports = sym c.ports.ensures ∙ c.if-ports.false ∙ c.count-ports.ensures in
    let may = ap (λ x. may_begin x ports) (sym c.of-loaded.ensures) ∙ sym c.in_ok-fits.ensures in
    (begins p s ports c.if-not-self.false count may ∙ ap Ok (ap begun (sym c.of-loaded.ensures) ∙ sym c.begun-stage.ensures.begun), c.count-ports.ensures)
