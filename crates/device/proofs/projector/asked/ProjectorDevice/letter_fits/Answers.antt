use Rattle.std.proofs.Common.{◌&&◌, length, sym, ap, ◌∙◌, rules, tests}
use Rattle.std.specs.List.{list_all}
use Rattle.std.proofs.lemmas.Iterator.{YieldsList-from_slice}
use Rattle.std.proofs.lemmas.Iterator.Search.{all_from_yields_List}
use Rattle.protocol.specs.Slots.{table_in}
use Rattle.protocol.proofs.Tests.{equal_numbers, other_numbers}
use Rattle.device.proofs.Listing.{leads_along, lists_letter}
use Rattle.device.proofs.projector.asked.ProjectorDevice.letter_fits.Goals as goal

pub returns-then-from-edges : goal.returns-then-from-edges
returns-then-from-edges c =
    let ways = c.edges_of-edges.result.now in
    let led = leads_along (table_in c.args.table.now) c.args.named in
    all_from_yields_List led _ _ c.all.result c.all.ensures.ran (YieldsList-from_slice ways (cc)) (λ x b q k. search (rules, tests))
    ∙ ap (λ b. b && list_all led ways) (sym (equal_numbers c.if-from-edges.true))
    ∙ lists_letter ways c.args.letter c.from.result (table_in c.args.table.now) c.args.named c.edges_of-edges.ensures (c.from.ensures ∙ c.edge_count.ensures)

pub returns-else-from-edges : goal.returns-else-from-edges
returns-else-from-edges c =
    let ways = c.edges_of-edges.result.now in
    let other = other_numbers c.from.result (length ways) c.if-from-edges.false in
    other
    ∙ ap (λ b. b && list_all (leads_along (table_in c.args.table.now) c.args.named) ways) (sym other)
    ∙ lists_letter ways c.args.letter c.from.result (table_in c.args.table.now) c.args.named c.edges_of-edges.ensures (c.from.ensures ∙ c.edge_count.ensures)
