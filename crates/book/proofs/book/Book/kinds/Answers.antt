use Rattle.std.proofs.Common.{sym, ◌∙◌}
use Rattle.std.proofs.lemmas.Slice.Zip.{AllZip-long}
use Rattle.book.specs.Automata.{Shows}
use Rattle.book.proofs.book.Book.kinds.Goals as goal

pub returns-clause-value : goal.returns-clause-value
returns-clause-value c = c.len.ensures.value ∙ sym (AllZip-long Shows _ _ c.args.self.now.shown)
