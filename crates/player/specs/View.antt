-- The player of the definitions that a player is.
use Rattle.device.specs.Ports.{Ports}
use Rattle.machine.specs.Player as machine
use Rattle.machine.specs.Runs.{Scene}
use Rattle.player.specs.declared.player.Player.{Player}
use Rattle.player.specs.Loaded.{held}
use Rattle.player.specs.Seen.{seen}

abbrev pub view : Player → machine.Player
view p = seen (held p.loaded) p.stage

-- between two calls
abbrev pub scene : Player → Ports → Scene
scene p g = record { player = view p; rig = g }
