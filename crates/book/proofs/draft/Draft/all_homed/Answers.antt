use Rattle.std.proofs.Common.{◌≡◌, length, sym, ◌∙◌, rules, tests}
use Rattle.std.proofs.lemmas.Iterator.{YieldsList-from_slice, YieldsList-from_zip}
use Rattle.std.proofs.lemmas.Iterator.Adapters.{YieldsList-from_skip}
use Rattle.std.proofs.lemmas.Iterator.Search.{all_from_yields_List}
use Rattle.book.proofs.Homing.{has_one, homed_behind, behind_homed}
use Rattle.book.proofs.draft.Draft.all_homed.Goals as goal

pub returns : goal.returns
returns c =
    let ns = c.args.self.now.named in
    let rs = c.args.self.now.automaton.retreats in
    let len : length ns ≡ length rs = search rules in
    let pairs = c.skip.result.iter in
    let chain = YieldsList-from_skip {s = c.skip.result} 1 (YieldsList-from_zip {s = pairs} (YieldsList-from_slice {s = pairs.a} ns cc) (YieldsList-from_slice {s = pairs.b} rs cc)) cc in
    let is = all_from_yields_List has_one c.all.new.self _ c.all.result c.all.ensures.ran chain (λ x b q k. search (rules, tests)) in
    (λ ok. homed_behind ns rs len (sym is ∙ ok), λ f. is ∙ behind_homed ns rs f)
