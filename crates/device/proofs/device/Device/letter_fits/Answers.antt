use Rattle.std.proofs.Common.{refl, ◌∙◌, rules, tests}
use Rattle.std.proofs.lemmas.Iterator.{YieldsList-from_range}
use Rattle.std.proofs.lemmas.Iterator.Search.{all_from_yields_List}
use Rattle.protocol.specs.Slots.{table_in}
use Rattle.protocol.specs.Tables.{same_answers}
use Rattle.protocol.proofs.Same.{all_answers_same}
use Rattle.device.proofs.device.Device.letter_fits.Goals as goal

pub returns : goal.returns
returns g c =
    let e = (g.Self.Device.meaning c.args.self.now).table in
    let f = table_in c.args.table.now in
    all_from_yields_List (same_answers e c.args.letter f c.args.named) _ _ _ c.all.ensures.ran (YieldsList-from_range 0 16 16 refl refl) (λ x b q k. search (rules, tests))
    ∙ all_answers_same e c.args.letter f c.args.named
