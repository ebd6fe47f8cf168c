use Rattle.std.proofs.Common.{◌≡◌, ◌-◌, ◌≤◌, [], map, length, drop}
use Rattle.std.specs.List.{All}
use Rattle.book.specs.Held.{kinds_held}
use Rattle.rules.specs.Check.{check_parts}
use Rattle.script.specs.Parts.{shown, Lies}
use Rattle.script.proofs.draft.Draft.read_parts.Given as goal

-- what is left decides, behind the parts so far
abbrev pub invariant-loop-place : goal.invariant-loop-place
invariant-loop-place l =
    let bs = l.self.bytes.now in
    let book = kinds_held l.self.book.now in
    (l.place ≤ length bs) × All (Lies bs) l.parts.items × (check_parts 17 book [] 0 bs ≡ check_parts (17 - length l.parts.items) book (map (shown bs) l.parts.items) l.place (drop l.place bs))

abbrev pub decreases-loop-place : goal.decreases-loop-place
decreases-loop-place l = length l.self.bytes.now - l.place
