use Rattle.std.proofs.Common.{ℕ, ◌&&◌, refl, sym, ap, ◌∙◌, rules, tests}
use Rattle.std.proofs.lemmas.Iterator.{YieldsList-from_range}
use Rattle.std.proofs.lemmas.Iterator.Search.{all_from_yields_List}
use Rattle.protocol.specs.Lists.{all}
use Rattle.protocol.specs.Tables.{successors}
use Rattle.book.specs.Automata.{edges_of, retreats_of}
use Rattle.book.specs.Kinds.{nearer}
use Rattle.book.proofs.automaton.Automaton.falls.Goals as goal

pub returns-then-allowed : goal.returns-then-allowed
returns-then-allowed c =
    let t = edges_of c.args.self.now in
    let h = retreats_of c.args.self.now in
    let r = c.args.retreat in
    all_from_yields_List (λ (a : ℕ). nearer h r (t r.station r.letter a)) _ _ _ c.all.ensures.ran (YieldsList-from_range 0 4 4 refl refl) (λ x b q k. search (rules, tests))
    ∙ ap (λ v. v && all (nearer h r) (successors t r.station r.letter)) (sym c.if-allowed.true ∙ c.allowed.ensures)
