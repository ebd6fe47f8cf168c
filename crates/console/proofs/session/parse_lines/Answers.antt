use Rattle.std.proofs.Common.{[], sym, ◌∙◌, append-nil}
use Rattle.console.specs.Views.{view}
use Rattle.console.proofs.Rows.{fewer, first_row, last_row, row_more}
use Rattle.console.proofs.session.parse_lines.Goals as goal

pub loop-end-preserved : goal.loop-end-preserved
loop-end-preserved c =
    let step = first_row c.loop-end.rest.now c.split_at_mut-row.result.0.now c.split_at_mut-row.result.1.now c.in-Some.end c.in-Some.ensures c.split_at_mut-row.ensures.front c.split_at_mut-row.ensures.back in (
      row_more _ _ _ (view c.in_ok-line.line) c.split_at_mut-row.result.0.now c.loop-end.number _ _ c.loop-end.invariant.0 step c.in_ok-line.ensures c.in_ok-keep.ensures,
      fewer c.loop-end.rest.now c.split_at_mut-row.result.1.now c.in-Some.end c.loop-end.number _ c.in-Some.ensures c.split_at_mut-row.ensures.back c.loop-end.invariant.1,
    )

pub returns : goal.returns
returns c =
    let whole = row_more _ _ _ (view c.in_ok-line-2.line) c.loop-end.rest.now c.loop-end.number _ [] c.loop-end.invariant.0 (last_row c.loop-end.rest.now c.in_default.ensures) c.in_ok-line-2.ensures c.in_ok-keep-2.ensures in
    sym (append-nil _) ∙ sym whole
