use Rattle.std.proofs.Common.{rules}
use Rattle.device.specs.Letters.{letter_of}
use Rattle.device.proofs.Lettering.{mapped}
use Rattle.device.proofs.letter_map.reading.letters.Goals as goal

pub returns : goal.returns
returns c = mapped letter_of 0 c.map.ensures.items (search rules) (λ p q x y h. search rules)
