use Rattle.std.proofs.Common.{Err, sym, ap, ◌∙◌, true≢false}
use Rattle.std.proofs.lemmas.Result.{err_from_is_err_and}
use Rattle.faults.specs.declared.fault.Fault.{Fault}
use Rattle.book.proofs.Closed.{close_homeless, close_tried, close_passes}
use Rattle.book.proofs.draft.Draft.close.Goals as goal

pub returns-then-not-all_homed : goal.returns-then-not-all_homed
returns-then-not-all_homed c x w =
    close_homeless c.args.self x w (λ homes. true≢false (sym (c.all_homed.ensures.1 homes) ∙ c.if-not-all_homed.true))
    ∙ ap (λ (v : Fault). Err v) (sym c.at.ensures)

pub returns-in_err-all_fall : goal.returns-in_err-all_fall
returns-in_err-all_fall c x w =
    let p = err_from_is_err_and c.from_residual.result c.from_residual.ensures.1 in
    rw (p.1, p.2) (close_tried c.args.self x w (c.all_homed.ensures.0 c.if-not-all_homed.false) _ c.in_err-all_fall.ensures)

pub returns : goal.returns
returns c x w = close_passes c.args.self x w (c.all_homed.ensures.0 c.if-not-all_homed.false) c.in_ok-all_fall.ensures
