use Rattle.std.proofs.Common.{cond, ◌&&◌, eqb, Some, sym, ap, ◌∙◌}
use Rattle.protocol.proofs.Tests.{both}
use Rattle.book.specs.Automata.{retreats_of}
use Rattle.book.specs.Kinds.{retreat_in_range}
use Rattle.book.proofs.Drafting.{retreat_gives}
use Rattle.book.proofs.draft.Draft.add_retreat.Goals as goal

pub returns : goal.returns
returns c x w =
    let r = c.args.retreat in
    let a = c.args.self.now.automaton in
    let p = both (retreat_in_range r) _ (sym c.add_retreat.ensures.answer ∙ c.if-not-add_retreat.false) in
    retreat_gives c.args.self.now x c.add_retreat.new.self c.args.place r c.push.new.self _ w p.0 p.1 c.add_retreat.ensures.edges
    (λ s. c.add_retreat.ensures.after s ∙ ap (λ b. cond (b && eqb r.station s) (Some r) (retreats_of a s)) c.if-not-add_retreat.false)
    c.push.ensures.items
