use Rattle.std.proofs.Common.{ℕ, List, ◌++◌, map, drop, string_bytes}
use Rattle.std.specs.Io.KnownBytes.{Appends}
use Rattle.console.specs.Held.{held_of, nothing_held}
use Rattle.console.specs.Numbered.{numbered}
use Rattle.console.specs.Transcripts.{Told}
use Rattle.console.proofs.session.answer_lines.Given as goal

-- what the writer took so far, and the text behind it: whatever is answered to the lines that are left completes them to the whole
abbrev pub invariant-loop-next : goal.invariant-loop-next
invariant-loop-next g l =
    (taken : List ℕ) × Appends (g.W.Write.contents l.initial.out) (g.W.Write.contents l.out) taken
    × ((rest : List ℕ) → Told (held_of l.desk) (map numbered (drop l.next-index l.asked)) rest →
    Told nothing_held (map numbered l.asked) (taken ++ (string_bytes l.text ++ rest)))
