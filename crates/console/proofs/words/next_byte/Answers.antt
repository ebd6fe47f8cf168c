use Rattle.console.proofs.Blanks.{next_none, next_some}
use Rattle.std.proofs.Common.{ap, ◌+◌}
use Rattle.console.proofs.words.next_byte.Goals as goal

pub returns-then-at-text-clause-next : goal.returns-then-at-text-clause-next
returns-then-at-text-clause-next c = next_some c.args.text.now c.args.from _ (ap (λ k. c.args.from + k) c.count_blanks.ensures.count) c.if-at-text.true

pub returns-else-at-text-clause-next : goal.returns-else-at-text-clause-next
returns-else-at-text-clause-next c = next_none c.args.text.now c.args.from _ (ap (λ k. c.args.from + k) c.count_blanks.ensures.count) c.if-at-text.false
