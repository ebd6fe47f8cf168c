use Rattle.std.proofs.Common.{ℕ, refl, rules, tests}
use Rattle.std.proofs.lemmas.Iterator.{YieldsList-from_range}
use Rattle.std.proofs.lemmas.Iterator.Search.{all_from_yields_List}
use Rattle.protocol.specs.Slots.{table_in}
use Rattle.protocol.specs.Tables.{same_option}
use Rattle.device.specs.Ports.{edge_at}
use Rattle.device.proofs.rig.fn.Rig.has_table.fn.all.all.Goals as goal

pub returns : goal.returns
returns g c =
    let e = edge_at (g.Self.Rig.ports c.captures.self.now) c.captures.port c.args.station c.captures.letter in
    let f = table_in c.captures.table.now c.args.station c.captures.letter in
    let same =
    all_from_yields_List (λ (a : ℕ). same_option (e a) (f a)) _ _ c.all.result c.all.ensures.ran (YieldsList-from_range 0 4 4 refl refl) (λ x b q k. search (rules, tests)) in
    search (rules, same)
