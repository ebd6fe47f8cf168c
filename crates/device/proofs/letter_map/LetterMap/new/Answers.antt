use Rattle.std.proofs.Common.{map, sym, ap, ◌∙◌, subst}
use Rattle.std.specs.List.{list_all}
use Rattle.device.specs.Letters.{AreLetters, AreLetters-of, letter_of, letter_or_none}
use Rattle.device.proofs.Lettering.{below_read, read}
use Rattle.device.proofs.letter_map.LetterMap.new.Goals as goal

pub invariant_of-result : goal.invariant_of-result
invariant_of-result c = record { known = subst AreLetters (sym c.letters.ensures) (AreLetters-of c.in-Ok.bytes) }

pub returns-in-Ok : goal.returns-in-Ok
returns-in-Ok c =
    let same = c.in-Ok.ensures.1.same in
    let long = c.in-Ok.ensures.1.long in
    let told = c.letters.ensures ∙ ap (map letter_of) same in
    record {
      map = read c.args.bytes.now _ long (ap (list_all letter_or_none) (sym same) ∙ sym c.if-fits.ensures) told;
      below = below_read _ c.args.bytes.now long told;
    }
