use Rattle.std.proofs.Common.{cond, ◌&&◌, eqb, Some, sym, ap, ◌∙◌}
use Rattle.protocol.proofs.Tests.{both}
use Rattle.protocol.proofs.Ranges.{edge_ranged}
use Rattle.protocol.specs.Slots.{table_in}
use Rattle.protocol.specs.Tables.{edge_in_range, leads}
use Rattle.book.specs.Leads.{joined_with}
use Rattle.book.specs.declared.leads.Leads.{Leads}
use Rattle.book.proofs.Drafting.{none_of}
use Rattle.book.proofs.Joint.{joint_added}
use Rattle.book.proofs.automaton.Automaton.add_edge.Goals as goal

pub invariant_of-self : goal.invariant_of-self
invariant_of-self c =
    let e = c.args.edge in
    let t = c.args.self.now.edges in
    let p = both (edge_in_range e) _ (sym c.declare-new.ensures.answer ∙ c.if-new.true) in
    record {
      joined = λ s l.
          c.join.ensures s l
          ∙ ap (λ (w : Leads). cond (eqb e.from s && eqb e.letter l) (joined_with e.to w) w) (c.args.self.now.joined s l)
          ∙ sym (joint_added (table_in t) (table_in c.declare-new.new.self) e (edge_ranged e p.0).2 (none_of _ p.1)
          (λ s l a. c.declare-new.ensures.after s l a ∙ ap (λ b. cond (b && leads e s l a) (Some e.to) (table_in t s l a)) c.if-new.true) s l);
    }
