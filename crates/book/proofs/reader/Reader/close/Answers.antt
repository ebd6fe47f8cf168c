use Rattle.std.proofs.Common.{sym, ◌∙◌}
use Rattle.std.proofs.lemmas.Result.{err_from_is_err_and}
use Rattle.book.proofs.Readers.{close_reads, close_fails}
use Rattle.book.proofs.reader.Reader.close.Goals as goal

pub returns-in_err-close : goal.returns-in_err-close
returns-in_err-close c x w =
    let p = err_from_is_err_and c.from_residual.result c.from_residual.ensures.1 in
    rw (p.1, p.2) (close_fails c.args.self.now c.in-Some.draft x _ w (sym c.take.ensures.value ∙ c.in-Some.is) c.in_err-close.ensures)

pub returns-in_ok-close : goal.returns-in_ok-close
returns-in_ok-close c x w =
    close_reads c.args.self.now c.in-Some.draft c.in_ok-close.field-0 c.push.new.self c.take.new.self _ x w (sym c.take.ensures.value ∙ c.in-Some.is) c.push.ensures.items c.take.ensures.after c.in_ok-close.ensures
