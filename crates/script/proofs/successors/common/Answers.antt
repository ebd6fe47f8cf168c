use Rattle.std.proofs.Common.{◌≡◌, ◌<◌, length, drop, rules, tests, sym, ◌∙◌, arith}
use Rattle.std.specs.List.{list_all}
use Rattle.std.proofs.lemmas.List.{take_rest}
use Rattle.std.proofs.lemmas.Iterator.{YieldsList-from_slice}
use Rattle.std.proofs.lemmas.Iterator.Search.{all_from_yields_List}
use Rattle.std.proofs.lemmas.Bool.Decides.{nat_tests}
use Rattle.script.proofs.Joining.{common_first}
use Rattle.script.proofs.successors.common.Goals as goal

pub returns-in-len1-up : goal.returns-in-len1-up
returns-in-len1-up g c =
    let some : 0 < length c.args.items.now = grind (arith, nat_tests) in
    let r : c.all.result ≡ list_all (λ y. g.T.PartialEq.eq y c.first-item.result) (drop 1 c.args.items.now) =
    all_from_yields_List (λ y. g.T.PartialEq.eq y c.first-item.result) _ _ c.all.result c.all.ensures.ran (YieldsList-from_slice (drop 1 c.args.items.now) (c.iter.ensures.rest ∙ take_rest c.args.items.now 1)) (λ x b q k. search (rules, tests)) in
    c.then_some.ensures ∙ sym (common_first g.T.PartialEq.eq c.args.items.now c.first-item.result c.all.result some c.first-item.is r)
