use Rattle.std.proofs.Common.{map, ap, ◌∙◌}
use Rattle.console.specs.Lines.{lines_of}
use Rattle.console.specs.Numbered.{numbered}
use Rattle.console.proofs.Told.{prints}
use Rattle.console.proofs.Turns.{on_ok}
use Rattle.console.proofs.session.transcript.Goals as goal

pub returns : goal.returns
returns g c =
    on_ok c.answer_lines.result
    (prints (lines_of c.args.input.now) _ (g.W.Write.contents c.args.out.now) (g.W.Write.contents c.answer_lines.new.out) (ap (map numbered) c.deref.ensures.value ∙ c.in_ok-asked.ensures))
    c.answer_lines.ensures
