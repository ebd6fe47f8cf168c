use Rattle.std.proofs.Common.{rules, tests, ◌≡◌, ◌∙◌}
use Rattle.std.specs.List.{prefix_len}
use Rattle.std.proofs.lemmas.Iterator.{YieldsList-from_slice}
use Rattle.std.proofs.lemmas.Iterator.Consumers.{count_from_yields_List}
use Rattle.std.proofs.lemmas.Iterator.Search.{YieldsList-from_take_while}
use Rattle.std.proofs.lemmas.List.Folds.{length-prefix_len}
use Rattle.std.proofs.lemmas.List.Sums.{prefix_len-le-length}
use Rattle.console.specs.Words.{in_word}
use Rattle.console.proofs.words.count_letters.Goals as goal

pub returns : goal.returns
returns c =
    let counted : c.count.result ≡ prefix_len in_word c.args.line.now =
    count_from_yields_List c.take_while.result _ c.count.ensures.ran (YieldsList-from_take_while _ in_word (YieldsList-from_slice c.args.line.now cc) c.take_while.ensures.closure c.take_while.ensures.done (λ x b q k. search (rules, tests))) ∙ length-prefix_len in_word c.args.line.now in
    record {
      count = counted;
      within = rw counted (prefix_len-le-length in_word c.args.line.now);
    }
