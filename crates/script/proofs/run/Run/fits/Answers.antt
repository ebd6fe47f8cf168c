use Rattle.std.proofs.Common.{◌≡◌, ℕ, cond, eqb, ltb, length, refl, rules, tests, ◌∙◌}
use Rattle.std.specs.List.{enumerate_from, list_all}
use Rattle.std.proofs.lemmas.Iterator.{YieldsList-from_slice}
use Rattle.std.proofs.lemmas.Iterator.Consumers.{YieldsList-from_enumerate}
use Rattle.std.proofs.lemmas.Iterator.Search.{all_from_yields_List}
use Rattle.script.specs.Runs.{fits}
use Rattle.script.proofs.Mapped.{all_numbered}
use Rattle.script.proofs.run.Run.fits.Goals as goal

pub returns : goal.returns
returns c =
    let bs = c.args.self.now.bindings in
    let theirs = c.args.self.now.part.now.own in
    let ours = c.args.self.now.running.now.own in
    let eight : length bs ≡ 8 = search rules in
    let one = λ (b : ℕ × ℕ). cond (ltb b.0 theirs) (ltb b.1 ours) (eqb b.1 255) in
    let all : c.all.result ≡ list_all one (enumerate_from 0 bs) =
    all_from_yields_List one _ _ c.all.result c.all.ensures.ran (YieldsList-from_enumerate (YieldsList-from_slice bs (cc)) (cc)) (λ x b q k. search (rules, tests)) in
    all ∙ all_numbered (fits bs theirs ours) one 0 bs 8 eight (λ i. refl)
