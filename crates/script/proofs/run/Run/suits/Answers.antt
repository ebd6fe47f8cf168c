use Rattle.std.proofs.Common.{◌≡◌, length, take, rules, tests, ◌∙◌}
use Rattle.std.specs.Iterator.Adapters.{zip_first, zip_second}
use Rattle.std.specs.List.{list_all, zip}
use Rattle.std.proofs.lemmas.Iterator.{YieldsList-from_slice, YieldsList-from_zip}
use Rattle.std.proofs.lemmas.Iterator.Search.{all_from_yields_List}
use Rattle.script.proofs.Bound.{one_suits, all_suit}
use Rattle.script.proofs.run.Run.suits.Goals as goal

pub returns : goal.returns
returns c =
    let q = c.args.self.now.running.now in
    let p = c.args.self.now.part.now in
    let bs = c.args.self.now.bindings in
    let eight : length bs ≡ 8 = search rules in
    let eight' : length p.handles ≡ 8 = search rules in
    let all : c.all.result ≡ list_all (one_suits q c.args.keys.now p bs) (zip (take p.own bs) p.handles) =
    all_from_yields_List (one_suits q c.args.keys.now p bs) c.all.new.self _ c.all.result c.all.ensures.ran (YieldsList-from_zip (YieldsList-from_slice {s = zip_first c.zip.result} (take p.own bs) (cc)) (YieldsList-from_slice {s = zip_second c.zip.result} p.handles (cc))) (λ x b q k. search (rules, tests)) in
    all ∙ all_suit q c.args.keys.now p bs eight eight'
