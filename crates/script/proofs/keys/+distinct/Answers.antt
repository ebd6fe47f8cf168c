use Rattle.std.proofs.Common.{◌≡◌, ℕ, ◌<◌, not, ◌&&◌, List, length, get_or, drop, sym, ap, ◌∙◌, arith}
use Rattle.rules.specs.Lists.{distinct, has}
use Rattle.std.proofs.lemmas.List.{take_rest}
use Rattle.std.proofs.lemmas.Bool.Decides.{nat_tests}
use Rattle.script.proofs.Testing.{contains_has}
use Rattle.script.proofs.Handing.{distinct_first}
use Rattle.script.proofs.keys.+distinct.Goals as goal

pub returns-then-not-contains : goal.returns-then-not-contains
returns-then-not-contains t c =
    let bs : List ℕ = c.args.bound.now in
    let lt : 0 < length bs = grind (arith, nat_tests) in
    let h : c.contains.result ≡ has (get_or bs 0 0) (drop 1 bs) = simp take_rest at (contains_has _ _ _ c.contains.ensures.cases) in
    let r : c.distinct.result ≡ distinct (drop 1 bs) = simp take_rest at c.distinct.ensures in
    r ∙ sym (distinct_first bs lt ∙ ap (λ b. not b && distinct (drop 1 bs)) (sym h ∙ c.if-not-contains.true))

pub returns-else-not-contains : goal.returns-else-not-contains
returns-else-not-contains t c =
    let bs : List ℕ = c.args.bound.now in
    let lt : 0 < length bs = grind (arith, nat_tests) in
    let h : c.contains.result ≡ has (get_or bs 0 0) (drop 1 bs) = simp take_rest at (contains_has _ _ _ c.contains.ensures.cases) in
    ap not c.if-not-contains.false ∙ sym (distinct_first bs lt ∙ ap (λ b. not b && distinct (drop 1 bs)) (sym h ∙ c.if-not-contains.false))
