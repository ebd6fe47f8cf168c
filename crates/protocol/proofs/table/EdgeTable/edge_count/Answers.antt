use Rattle.std.proofs.Common.{◌∙◌, sym, arith}
use Rattle.protocol.specs.Slots.{no_edges}
use Rattle.protocol.proofs.Held.{held_count, past_count}
use Rattle.protocol.proofs.table.EdgeTable.edge_count.Goals as goal

pub returns-in-Some : goal.returns-in-Some
returns-in-Some c =
    let item = rw c.from.ensures at c.in-Some.ensures.lookup in
    c.count.ensures.value ∙ sym (held_count c.args.self.now c.args.letter c.in-Some.edges.now (omega (arith, item.3.0)) (item.3.1 no_edges) c.count.ensures.room)

pub returns-in-None : goal.returns-in-None
returns-in-None c =
    let item = rw c.from.ensures at c.in-None.ensures.lookup in
    sym (past_count c.args.self.now c.args.letter (omega (arith, item.3)))
