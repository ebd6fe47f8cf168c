use Rattle.std.proofs.Common.{◌≡◌, ℕ, cond, ◌&&◌, ltb, sym, ◌∙◌, rules, tests}
use Rattle.std.specs.List.{enumerate_from, list_all}
use Rattle.protocol.proofs.Tests.{is_less}
use Rattle.script.specs.declared.part.Handle.{Handle}
use Rattle.std.proofs.lemmas.Iterator.{YieldsList-from_slice}
use Rattle.std.proofs.lemmas.Iterator.Consumers.{YieldsList-from_enumerate}
use Rattle.std.proofs.lemmas.Iterator.Search.{all_from_yields_List}
use Rattle.script.specs.Headers.{empty_handle, ranged}
use Rattle.script.proofs.part.Part.handles_fit.Goals as goal

pub returns-then-own-gt0 : goal.returns-then-own-gt0
returns-then-own-gt0 c =
    let p = c.args.self.now in
    let one = λ (n : ℕ) (h : ℕ × Handle). cond (ltb h.0 p.own) (ranged n h.1) (empty_handle h.1) in
    let all : c.all.result ≡ list_all (one c.kinds-kinds.result) (enumerate_from 0 p.handles) =
    all_from_yields_List (one c.kinds-kinds.result) _ _ c.all.result c.all.ensures.ran (YieldsList-from_enumerate (YieldsList-from_slice p.handles (cc)) (cc)) (λ x b q k. search (rules, tests)) in
    all ∙ (λ i. sym (is_less {m = 0} {n = p.own} c.if-own-gt0.true) i && list_all (one (c.kinds-kinds.ensures.value i)) (enumerate_from 0 p.handles))
