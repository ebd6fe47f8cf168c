use Rattle.std.proofs.Common.{refl, ◌∙◌, rules, tests}
use Rattle.std.proofs.lemmas.Iterator.{YieldsList-from_range}
use Rattle.std.proofs.lemmas.Iterator.Search.{all_from_yields_List}
use Rattle.protocol.specs.Slots.{table_in}
use Rattle.protocol.specs.Tables.{same_answers}
use Rattle.protocol.proofs.Same.{all_answers_same}
use Rattle.device.specs.Ports.{edge_at}
use Rattle.device.proofs.rig.fn.Rig.has_table.all.Goals as goal

pub returns : goal.returns
returns g c =
    let e = edge_at (g.Self.Rig.ports c.captures.self.now) c.captures.port in
    let f = table_in c.captures.table.now in
    let same =
    all_from_yields_List (same_answers e c.args.letter f c.args.letter) _ _ c.all.result c.all.ensures.ran (YieldsList-from_range 0 16 16 refl refl) (λ x b q k. search (rules, tests))
    ∙ all_answers_same e c.args.letter f c.args.letter in
    search (rules, same)
