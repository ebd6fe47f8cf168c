use Rattle.std.proofs.Common.{◌-◌, sym, ap, ◌∙◌, arith}
use Rattle.machine.specs.Player.{Player, port_kind}
use Rattle.player.specs.Loaded.{held, homeward}
use Rattle.player.specs.Seen.{seen}
use Rattle.player.proofs.Coming.{coming_as, coming_done}
use Rattle.player.proofs.Retreating.{retreated, retreats, withdrawn}
use Rattle.player.proofs.stage.Stage.withdraw.Goals as goal

pub returns-then-station-eq-AWAY-clause-told : goal.returns-then-station-eq-AWAY-clause-told
returns-then-station-eq-AWAY-clause-told g c =
    let p : Player = seen (held c.args.loaded.now) c.loop-sent.self in
    coming_done (coming_as (withdrawn (15 - c.loop-sent.sent) c.args.port p (sym c.station-station.ensures ∙ c.if-station-eq-AWAY.true)) c.loop-sent.invariant)

pub loop-sent-preserved : goal.loop-sent-preserved
loop-sent-preserved g c =
    let s = held c.args.loaded.now in
    let p : Player = seen s c.loop-sent.self in
    retreats 15 c.loop-sent.sent c.args.port p c.loop-sent.invariant (omega arith) (omega arith)
    (λ e. c.if-station-eq-AWAY.false (c.station-station.ensures ∙ e))
    (c.retreat_letter-letter.ensures ∙ ap (homeward (port_kind s c.args.port)) c.station-station.ensures)
    c.tell.ensures.heard c.tell.ensures.entry c.tell.ensures.kept

pub returns-clause-told : goal.returns-clause-told
returns-clause-told g c = retreated 15 c.loop-sent.sent c.args.port (seen (held c.args.loaded.now) c.loop-sent.self) c.loop-sent.invariant (omega arith)
