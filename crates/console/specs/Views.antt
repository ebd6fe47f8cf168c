-- What a line in memory holds.
use Rattle.std.specs.Prelude.{map, vec_items, Some, None, Ok, Err, Option, Result}
use Rattle.console.specs.declared.line.Command.{Command}
use Rattle.console.specs.declared.line.Command.TheVariants.{Book, Script, Rig, Stage}
use Rattle.console.specs.declared.line.NotUnderstood.{NotUnderstood}
use Rattle.console.specs.Lines.{Parsed, blank, book, script, rig, stage, unknown}
use Rattle.console.specs.Plans.{planned}

abbrev pub commanded : Command → Parsed
commanded (Book bytes) = book bytes.now
commanded (Script bytes) = script bytes.now
commanded (Rig v) = rig (map planned (vec_items v))
commanded (Stage command) = stage command

abbrev pub asked : Result Command NotUnderstood → Parsed
asked (Ok command) = commanded command
asked (Err e) = unknown

abbrev pub view : Option (Result Command NotUnderstood) → Parsed
view None = blank
view (Some command) = asked command

-- a line of devices: no other may want memory for its answer
abbrev pub IsRig : Parsed → Type 0
IsRig blank = ⊥
IsRig (book bs) = ⊥
IsRig (script bs) = ⊥
IsRig (rig plans) = Unit {0}
IsRig (stage command) = ⊥
IsRig unknown = ⊥
