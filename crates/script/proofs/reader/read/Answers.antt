use Rattle.std.proofs.Common.{arith}
use Rattle.book.specs.Held.{kinds_held}
use Rattle.script.proofs.Turns.{passed}
use Rattle.script.proofs.Whole.{main_fails, all_passes}
use Rattle.script.proofs.reader.read.Goals as goal

pub returns-in_err-check_main : goal.returns-in_err-check_main
returns-in_err-check_main c =
    rw (passed _ _ c.from_residual-in_err-check_main.ensures.1)
    (main_fails (kinds_held c.args.book.now) c.args.bytes.now (omega arith) c.as_slice.result.now c.in_ok-parts.parts.items c.as_slice.ensures.value c.in_ok-parts.ensures.0 _ c.in_err-check_main.ensures)

pub returns : goal.returns
returns c = (all_passes (kinds_held c.args.book.now) c.args.bytes.now (omega arith) c.as_slice.result.now c.in_ok-parts.parts.items c.as_slice.ensures.value c.in_ok-parts.ensures.0 c.in_ok-check_main.ensures, c.in_ok-parts.ensures.1, omega arith)
