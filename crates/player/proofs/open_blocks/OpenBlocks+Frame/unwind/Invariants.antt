use Rattle.std.proofs.Common.{◌≡◌, length}
use Rattle.machine.specs.Steps.{unwound}
use Rattle.player.specs.Frames.{frames_of}
use Rattle.player.proofs.open_blocks.OpenBlocks+Frame.unwind.Given as goal

abbrev pub invariant-loop-self : goal.invariant-loop-self
invariant-loop-self l = unwound (frames_of l.self) ≡ unwound (frames_of l.initial.self)

abbrev pub decreases-loop-self : goal.decreases-loop-self
decreases-loop-self l = length (frames_of l.self)
