-- Layers over a device, one over the other.
use Rattle.std.specs.Prelude.{◌≡◌, ℕ, ◌^◌, ◌<◌, Bool, List, [], ◌∷◌, ◌++◌}
use Rattle.protocol.specs.Lists.{Each}
use Rattle.device.specs.declared.letter_map.LetterMap.{LetterMap}
use Rattle.device.specs.Meaning.{Meaning, Lawful}
use Rattle.device.specs.Patch.{patched}

-- a trail, or a patch with what it keeps of its own
pub data Layer : Type 0 where
  trail : Layer
  patch : (map : LetterMap) (stuck : Bool) (heard letter answer : ℕ) → Layer

-- what the layer over a device means: the meanings that trail and patch give
abbrev pub over : Layer → Meaning → Meaning
over trail m = m
over (patch map stuck h l a) m = patched map stuck h l a m

-- the outermost layer first
abbrev pub stacked : List Layer → Meaning → Meaning
stacked [] m = m
stacked (x ∷ xs) m = over x (stacked xs m)

abbrev pub Counted : Layer → Type 0
Counted trail = Unit {0}
Counted (patch map stuck h l a) = h < 2 ^ 32

pub record Stacks (xs ys : List Layer) (m : Meaning) : Type 0 where
  -- layers over layers over a device are all of them over the device
  pub joined : stacked (xs ++ ys) m ≡ stacked xs (stacked ys m)
  -- a trail anywhere among them changes nothing
  pub trails : stacked (xs ++ (trail ∷ ys)) m ≡ stacked (xs ++ ys) m
  pub lawful : Each Counted xs → Lawful m → Lawful (stacked xs m)

abbrev pub LayersStack : Type 0
LayersStack = (xs ys : List Layer) (m : Meaning) → Stacks xs ys m
