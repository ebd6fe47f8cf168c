-- Where blocks stand.
use Rattle.std.specs.Prelude.{◌≡◌, ℕ, suc, ◌<◌, ◌≤◌, Ok, Err, Result}
use Rattle.faults.specs.declared.fault.Fault.{Fault}
use Rattle.faults.specs.declared.causes.LayoutCause.TheVariants.{TooDeep}
use Rattle.faults.specs.Numbers.{layout_fault}
use Rattle.rules.specs.Script as rules
use Rattle.script.specs.declared.level.Level.{Level}
use Rattle.script.specs.Scopes.{scope_of}

abbrev pub scope_at : Level → rules.Scope
scope_at l = scope_of l.scope.now

-- one deeper in the same scope, if that is not too deep
abbrev pub IsDeeper : Level → ℕ → Result Level Fault → Type 0
IsDeeper l place (Ok m) = (l.depth < 8) × (scope_at m ≡ scope_at l) × (m.depth ≡ suc l.depth)
IsDeeper l place (Err e) = (8 ≤ l.depth) × (e ≡ layout_fault TooDeep place)
