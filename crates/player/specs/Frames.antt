-- The open blocks, the topmost first.
use Rattle.std.specs.Prelude.{Bool, true, false, List, [], ◌∷◌, map, reverse}
use Rattle.rules.specs.Script.{Block}
use Rattle.script.specs.Pieces.{piece}
use Rattle.machine.specs.Player as machine
use Rattle.machine.specs.Steps.{opened}
use Rattle.player.specs.declared.open_blocks.Frame.{Frame}
use Rattle.player.specs.declared.open_blocks.OpenBlocks.{OpenBlocks}

abbrev pub frame_of : Frame → machine.Frame
frame_of f = record { block = piece f.block; ports = f.ports }

abbrev pub frames_of : OpenBlocks Frame → List machine.Frame
frames_of o = reverse (map frame_of o.frames.items)

-- the topmost goes on with the rest
abbrev pub passed : Block → List machine.Frame → List machine.Frame
passed rest [] = []
passed rest (f ∷ fs) = opened rest f.ports fs

-- nothing is left of the topmost
abbrev pub at_end : List machine.Frame → Bool
at_end [] = false
at_end (f ∷ fs) = elim f.block.bytes [ [] ↦ true | b ∷ bs ↦ false ]
