-- One command of the topmost block.
use Rattle.std.specs.Prelude.{ℕ, List}
use Rattle.rules.specs.Script.{Block, Command}
use Rattle.machine.specs.declared.report.Outcome.{Outcome}
use Rattle.machine.specs.Dialogue.{Dialogue}
use Rattle.machine.specs.Player.{Player}
use Rattle.machine.specs.Steps.{run_command}
use Rattle.player.specs.Frames.{passed}

-- the command stands at the place in the topmost block, whose handles have the ports, and the rest is behind it
abbrev pub runs : Player → ℕ → List ℕ → Block → Command → Dialogue (Outcome × Player)
runs p place ports rest c = run_command p place ports p.frames (passed rest p.frames) c
