-- Projectors under layers: what they mean, and which a line describes.
use Rattle.std.specs.Prelude.{ℕ, false, List, [], ◌∷◌, Ok, Result}
use Rattle.faults.specs.declared.fault.Fault.{Fault}
use Rattle.faults.specs.Results.{◌>>=◌}
use Rattle.device.specs.Kept.{patch_lawful, projector_lawful}
use Rattle.device.specs.LetterMap.{map_from}
use Rattle.device.specs.Meaning.{Lawful, Meaning}
use Rattle.device.specs.Patch.{patch_meaning}
use Rattle.device.specs.Projector.{projected, projector_meaning, replies_of}
use Rattle.device.specs.Stacked as stack
use Rattle.console.specs.declared.layer.Layer.{Layer}
use Rattle.console.specs.declared.layer.Layer.TheVariants.{Trail, Patch}
use Rattle.console.specs.declared.layered.Layered.{Layered}
use Rattle.console.specs.declared.layered.Layered.TheVariants.{Bare, Trailed, Patched}

module _ {D : Type 0} (meaning : D → Meaning) where
  abbrev pub layered_meaning : Layered D → Meaning
  layered_meaning (Bare p) = projector_meaning p
  layered_meaning (Trailed t) = meaning t.below
  layered_meaning (Patched p) = patch_meaning meaning p

  pub layered_lawful : ((d : D) → Lawful (meaning d)) → (l : Layered D) → Lawful (layered_meaning l)
  layered_lawful lawful (Bare p) = projector_lawful p
  layered_lawful lawful (Trailed t) = lawful t.below
  layered_lawful lawful (Patched p) = patch_lawful p.map p.stuck p.tally.heard p.tally.letter p.tally.answer (meaning p.below) (lawful p.below) p.tally.counted

-- the replies that are left to the projector under all layers
abbrev pub layered_replies : {D : Type 0} → (D → List ℕ) → Layered D → List ℕ
layered_replies replies (Bare p) = replies_of p
layered_replies replies (Trailed t) = replies t.below
layered_replies replies (Patched p) = replies p.below

-- the layer, over a device that is still away; a map may break its rule
abbrev pub layer_from : Layer → Result stack.Layer Fault
layer_from Trail = Ok stack.trail
layer_from (Patch bytes) = map_from bytes >>= (λ map. Ok (stack.patch map false 0 0 0))

-- what the layers mean over a projector, the outermost first
abbrev pub built : List Layer → Result Meaning Fault
built [] = Ok (projected 0 0 0 0)
built (l ∷ ls) = do
  layer ← layer_from l
  below ← built ls
  Ok (stack.over layer below)
