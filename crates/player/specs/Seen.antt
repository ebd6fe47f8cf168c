-- The player of the definitions that the code's values are.
use Rattle.rules.specs.Script as rules
use Rattle.machine.specs.Player.{Player}
use Rattle.player.specs.declared.stage.Stage.{Stage}
use Rattle.player.specs.Frames.{frames_of}

-- on the stage with the script
abbrev pub seen : rules.Script → Stage → Player
seen s t = record { over = t.over; script = s; registers = t.registers; stations = t.stations.items; frames = frames_of t.open }
