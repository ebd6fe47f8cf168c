-- Where a body is checked.
use Rattle.std.specs.Prelude.{◌≡◌, ℕ, true, false, List, map, Some, None, Option, slice_get}
use Rattle.book.specs.Held.{kinds_held}
use Rattle.rules.specs.Script as rules
use Rattle.rules.specs.Script.{in_range}
use Rattle.script.specs.declared.run.Run.{Run}
use Rattle.script.specs.declared.scope.Scope.{Scope}
use Rattle.script.specs.Parts.{shown}

abbrev pub scope_of : Scope → rules.Scope
scope_of s = record { book = kinds_held s.draft.book.now; below = map (shown s.draft.bytes.now) s.below.now; running = shown s.draft.bytes.now s.running }

-- the RUN of the part of that number with the bindings, or none if it is out of range
abbrev pub IsRun : Scope → ℕ → List ℕ → Option Run → Type 0
IsRun s p bs None = in_range (scope_of s) (rules.run p bs) ≡ false
IsRun s p bs (Some r) =
    (in_range (scope_of s) (rules.run p bs) ≡ true) × (slice_get s.below.now p ≡ Some r.part.now) × (r.running.now ≡ s.running) × (r.bindings ≡ bs)
