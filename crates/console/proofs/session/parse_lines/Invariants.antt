use Rattle.std.proofs.Common.{◌≡◌, ◌+◌, ◌≤◌, ◌++◌, length, map, vec_items}
use Rattle.console.specs.Lines.{asked_from, lines_of}
use Rattle.console.specs.Numbered.{numbered}
use Rattle.console.proofs.session.parse_lines.Given as goal

abbrev pub invariant-loop-end : goal.invariant-loop-end
invariant-loop-end l =
    (asked_from 1 (lines_of l.fn.input) ≡ map numbered (vec_items l.asked) ++ asked_from l.number (lines_of l.rest))
    × (l.number + length l.rest ≤ length l.fn.input + 1)

abbrev pub decreases-loop-end : goal.decreases-loop-end
decreases-loop-end l = length l.rest
