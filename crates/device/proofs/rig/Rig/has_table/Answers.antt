use Rattle.std.proofs.Common.{refl, sym, ◌∙◌, arith, rules, tests, le-ltb}
use Rattle.std.proofs.lemmas.Iterator.{YieldsList-from_range}
use Rattle.std.proofs.lemmas.Iterator.Search.{all_from_yields_List}
use Rattle.protocol.specs.Slots.{table_in}
use Rattle.protocol.specs.Tables.{same_letter}
use Rattle.protocol.proofs.Same.{letter_by_letter}
use Rattle.device.specs.Ports.{edge_at}
use Rattle.device.proofs.Numbered.{table_of_port, no_table}
use Rattle.device.proofs.rig.Rig.has_table.Goals as goal

pub returns-then-port-count : goal.returns-then-port-count
returns-then-port-count g c =
    let ports = g.Self.Rig.ports c.args.self.now in
    let e = edge_at ports c.args.port in
    let f = table_in c.args.table.now in
    all_from_yields_List (λ l. same_letter e l f l) _ _ c.all.result c.all.ensures.ran (YieldsList-from_range 0 16 16 refl refl) (λ x b q k. search (rules, tests))
    ∙ letter_by_letter e f
    ∙ sym (table_of_port ports c.args.port f (omega arith))

pub returns-else-port-count : goal.returns-else-port-count
returns-else-port-count g c =
    le-ltb c.args.port c.count.result c.if-port-count.false ∙ sym (no_table (g.Self.Rig.ports c.args.self.now) c.args.port (table_in c.args.table.now) (omega arith))
