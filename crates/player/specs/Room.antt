-- There is room for every block that a script may open.
use Rattle.rules.specs.Script as rules
use Rattle.machine.proofs.Open.{Open}
use Rattle.player.specs.declared.stage.Stage.{Stage}
use Rattle.player.specs.Frames.{frames_of}

-- The open blocks are blocks of the script, each of a part below, or deeper in the part, of the one under it; so at most 128 are open.
-- That it is so, and not how, matters: hence it is a proposition.
abbrev pub Room : rules.Script → Stage → Type 0
Room s t = ∥ Open s (frames_of t.open) ∥₁
