use Rattle.std.proofs.Common.{◌≡◌, ℕ, Option, ap, ◌∙◌}
use Rattle.std.specs.Option.{unwrap_or}
use Rattle.machine.specs.Player.{Player, kept, led, port_table, with_station}
use Rattle.player.specs.Loaded.{held}
use Rattle.player.specs.Seen.{seen}
use Rattle.player.proofs.stage.Stage.tell.Goals as goal

leads : (p : Player) (i l a s t : ℕ) (o : Option ℕ) → s ≡ kept p i → o ≡ port_table p.script i s l a → t ≡ unwrap_or o 16 → t ≡ led p i l a
leads p i l a s t o at edge to = to ∙ ap (λ v. unwrap_or v 16) (edge ∙ ap (λ v. port_table p.script i v l a) at)

pub returns-clause-kept : goal.returns-clause-kept
returns-clause-kept g c =
    let p : Player = seen (held c.args.loaded.now) c.args.self.now in
    c.set_station.ensures (held c.args.loaded.now)
    ∙ ap (with_station p c.args.port) (leads p c.args.port c.args.letter c.ask-answer.result _ _ _ c.station.ensures c.edge.ensures c.unwrap_or-to.ensures)
