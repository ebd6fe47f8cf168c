use Rattle.std.proofs.Common.{◌≡◌, rules, tests, ◌∙◌}
use Rattle.std.specs.Iterator.Adapters.{zip_first, zip_second}
use Rattle.std.specs.List.{list_all, zip}
use Rattle.std.proofs.lemmas.Iterator.{YieldsList-from_slice, YieldsList-from_zip}
use Rattle.std.proofs.lemmas.Iterator.Search.{all_from_yields_List}
use Rattle.script.proofs.Joining.{all_spare, one_spare}
use Rattle.script.proofs.successors.undeclared_empty.Goals as goal

pub returns : goal.returns
returns c =
    let ts = c.args.to.now in
    let bs = c.args.blocks.now in
    let all : c.all.result ≡ list_all one_spare (zip ts bs) =
    all_from_yields_List one_spare c.all.new.self _ c.all.result c.all.ensures.ran (YieldsList-from_zip (YieldsList-from_slice {s = zip_first c.zip.result} ts (cc)) (YieldsList-from_slice {s = zip_second c.zip.result} bs (cc))) (λ x b q k. search (rules, tests)) in
    all ∙ all_spare ts bs
