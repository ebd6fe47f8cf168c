use Rattle.std.proofs.Common.{◌<◌, length, rules}
use Rattle.std.proofs.lemmas.Result.{err_from_is_err_and}
use Rattle.book.proofs.Books.{left_on, left_fails}
use Rattle.book.proofs.reader.Reader.read.Goals as goal

pub returns-in_err-rest : goal.returns-in_err-rest
returns-in_err-rest c =
    let p = err_from_is_err_and c.from_residual.result c.from_residual.ensures.1 in
    let w = c.loop-rest.invariant in
    let some : 0 < length c.loop-rest.rest.now = search rules in
    rw (p.1, p.2) (left_fails c.args.bytes.now c.loop-rest.self c.loop-rest.rest.now w some _ (c.in_err-rest.ensures w.reading w.reads))

pub loop-rest-preserved : goal.loop-rest-preserved
loop-rest-preserved c =
    let w = c.loop-rest.invariant in
    let some : 0 < length c.loop-rest.rest.now = search rules in
    (left_on c.args.bytes.now c.loop-rest.self c.loop-rest.rest.now w some c.declare.new.self c.in_ok-rest.rest (c.in_ok-rest.ensures w.reading w.reads)).0
