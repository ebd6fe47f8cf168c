use Rattle.std.proofs.Common.{◌≡◌, ℕ, ◌-◌, false, List, [], ◌++◌, replicate, sym, ap, ◌∙◌, subst, arith}
use Rattle.rules.specs.Lists.{from}
use Rattle.rules.specs.Script as rules
use Rattle.machine.specs.Player.{Frame, begun, main}
use Rattle.machine.specs.Steps.{opened}
use Rattle.machine.proofs.Open.{Open}
use Rattle.player.specs.Loaded.{held}
use Rattle.player.proofs.Rooms.{begun_room}
use Rattle.player.proofs.stage.Stage.begun.Goals as goal

-- main alone is open, over its own ports
main_open : (s : rules.Script) (n : ℕ) (b : rules.Block) (ports : List ℕ) (none fs : List Frame) → n ≡ (main s).handles → b ≡ (main s).body →
    ports ≡ from 0 n ++ replicate (8 - n) 255 → none ≡ [] → fs ≡ opened b ports none → fs ≡ (begun s).frames
main_open s n b ports none fs own body handles nil all =
    all ∙ (λ i. opened (body i) (handles i) (nil i)) ∙ ap (λ k. opened (main s).body (from 0 k ++ replicate (8 - k) 255) []) own

pub returns : goal.returns
returns c =
    let s : rules.Script = held c.args.loaded.now in
    let frames = main_open s c.args.ports _ _ _ _ c.requires.own c.main.ensures c.own_ports.ensures c.new-open.ensures c.push.ensures in
    record {
      begun = λ i. record {
        over = false;
        script = s;
        registers = replicate 8 0;
        stations = (c.all_away.ensures ∙ ap (λ n. replicate n 0) c.requires.own) i;
        frames = frames i;
      };
      room = subst (λ (fs : List Frame). ∥ Open s fs ∥₁) (sym frames) (begun_room c.args.loaded.now (omega (arith, c.requires.own)));
    }
