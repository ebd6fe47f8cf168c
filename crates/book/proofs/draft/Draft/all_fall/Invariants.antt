use Rattle.std.proofs.Common.{◌≡◌, length, drop}
use Rattle.faults.specs.Results.{each}
use Rattle.book.specs.Automata.{edges_of, retreats_of}
use Rattle.book.specs.Reading.{placed_falls}
use Rattle.book.proofs.draft.Draft.all_fall.Given as goal

-- what is left decides
abbrev pub invariant-loop-placed : goal.invariant-loop-placed
invariant-loop-placed l =
    (goal.iterator-loop-placed).can_next l.placed-iterator
    × (goal.iterator-loop-placed).is_finite l.placed-iterator
    × (each (placed_falls (edges_of l.self.automaton) (retreats_of l.self.automaton)) (drop (length l.yielded) l.self.retreats.items)
    ≡ each (placed_falls (edges_of l.self.automaton) (retreats_of l.self.automaton)) l.self.retreats.items)
