use Rattle.std.proofs.Common.{ℕ, is_some, refl, ap, ◌∙◌, rules, tests}
use Rattle.std.proofs.lemmas.Iterator.{YieldsList-from_range}
use Rattle.std.proofs.lemmas.Iterator.Search.{any_from_yields_List}
use Rattle.protocol.specs.Tables.{allowed}
use Rattle.protocol.proofs.Answers.{one_of_four}
use Rattle.device.specs.Meaning.{Meaning}
use Rattle.device.proofs.device.Device.allows.Goals as goal

pub returns : goal.returns
returns g c =
    let m : Meaning = g.Self.Device.meaning c.args.self.now in
    let answered = λ (a : ℕ). is_some (m.table c.station-station.result c.args.letter a) in
    any_from_yields_List answered _ _ _ c.any.ensures.ran (YieldsList-from_range 0 4 4 refl refl) (λ x b q k. search (rules, tests))
    ∙ one_of_four answered
    ∙ ap (λ s. allowed m.table s c.args.letter) c.station-station.ensures
