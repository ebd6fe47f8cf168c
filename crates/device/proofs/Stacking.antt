-- Layers stack in any order.
use Rattle.std.proofs.Common.{◌≡◌, List, [], ◌∷◌, ◌++◌, refl, ap}
use Rattle.protocol.specs.Lists.{Each}
use Rattle.device.specs.Meaning.{Meaning, Lawful}
use Rattle.device.specs.Kept.{patch_lawful}
use Rattle.device.specs.Stacked.{Layer, trail, patch, over, stacked, Counted, LayersStack}

joined : (xs ys : List Layer) (m : Meaning) → stacked (xs ++ ys) m ≡ stacked xs (stacked ys m)
joined [] ys m = refl
joined (x ∷ xs) ys m = ap (over x) (joined xs ys m)

trails : (xs ys : List Layer) (m : Meaning) → stacked (xs ++ (trail ∷ ys)) m ≡ stacked (xs ++ ys) m
trails [] ys m = refl
trails (x ∷ xs) ys m = ap (over x) (trails xs ys m)

over_lawful : (x : Layer) (m : Meaning) → Counted x → Lawful m → Lawful (over x m)
over_lawful trail m c w = w
over_lawful (patch map stuck h l a) m c w = patch_lawful map stuck h l a m w c

lawful : (xs : List Layer) (m : Meaning) → Each Counted xs → Lawful m → Lawful (stacked xs m)
lawful [] m c w = w
lawful (x ∷ xs) m c w = over_lawful x (stacked xs m) c.0 (lawful xs m c.1 w)

pub stack : LayersStack
stack xs ys m = record { joined = joined xs ys m; trails = trails xs ys m; lawful = lawful xs m }
