use Rattle.std.proofs.Common.{◌≡◌, cond, ◌&&◌, length, Some, sym, ap, ◌∙◌, rules}
use Rattle.protocol.proofs.Tests.{both}
use Rattle.protocol.specs.Tables.{edge_in_range, leads}
use Rattle.book.specs.Automata.{edges_of}
use Rattle.book.proofs.Drafting.{edge_gives}
use Rattle.book.proofs.draft.Draft.add_edge.Goals as goal

pub returns : goal.returns
returns c x w =
    let e = c.args.edge in
    let m = c.args.self.now.automaton in
    let len : length c.args.self.now.named ≡ 16 = search rules in
    let p = both (edge_in_range e) _ (sym c.add_edge.ensures.answer ∙ c.if-not-add_edge.false) in
    edge_gives c.args.self.now x c.add_edge.new.self e c.from.result c.from-2.result _ c.args.place w c.from.ensures c.from-2.ensures len p.0 p.1 c.add_edge.ensures.retreats
    (λ s l a. c.add_edge.ensures.after s l a ∙ ap (λ b. cond (b && leads e s l a) (Some e.to) (edges_of m s l a)) c.if-not-add_edge.false)
