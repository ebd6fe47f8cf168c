use Rattle.std.proofs.Common.{ℕ, refl, rules, tests}
use Rattle.std.proofs.lemmas.Iterator.{YieldsList-from_range}
use Rattle.std.proofs.lemmas.Iterator.Search.{all_from_yields_List}
use Rattle.protocol.specs.Slots.{table_in}
use Rattle.protocol.specs.Tables.{same_option}
use Rattle.device.proofs.device.fn.Device.letter_fits.all.Goals as goal

pub returns : goal.returns
returns g c =
    let e = (g.Self.Device.meaning c.captures.self.now).table c.args.station c.captures.letter in
    let f = table_in c.captures.table.now c.args.station c.captures.named in
    let same =
    all_from_yields_List (λ (a : ℕ). same_option (e a) (f a)) _ _ c.all.result c.all.ensures.ran (YieldsList-from_range 0 4 4 refl refl) (λ x b q k. search (rules, tests)) in
    search (rules, same)
