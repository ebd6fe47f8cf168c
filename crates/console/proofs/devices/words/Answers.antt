use Rattle.std.proofs.Common.{rules, tests, List, ℕ, length, nat_lt}
use Rattle.std.proofs.lemmas.Iterator.Consumers.{YieldsList-from_filter, map_from_collect}
use Rattle.std.proofs.lemmas.Iterator.Splits.{YieldsList-from_slice_split}
use Rattle.console.specs.Words.{is_blank}
use Rattle.console.proofs.devices.words.Goals as goal

pub returns : goal.returns
returns c =
    let road = YieldsList-from_slice_split _ is_blank c.args.text.now (cc) (cc) (cc) (λ x b q k. search (rules, tests)) in
    map_from_collect _ c.collect.ensures.ran (YieldsList-from_filter _ (λ (w : List ℕ). nat_lt 0 (length w)) road c.filter.ensures.closure (λ x b q k. search (rules, tests)))
