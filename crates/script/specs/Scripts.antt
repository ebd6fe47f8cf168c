-- The parts of a whole script, and its check.
use Rattle.std.specs.Prelude.{◌≡◌, ℕ, ◌≤◌, List, [], ◌∷◌, map, length, Ok, Err, Result}
use Rattle.std.specs.List.{All}
use Rattle.arrayvec.specs.ArrayVec.{ArrayVec}
use Rattle.faults.specs.declared.fault.Fault.{Fault}
use Rattle.faults.specs.declared.causes.KeyCause.TheVariants.{MainHeld}
use Rattle.faults.specs.Numbers.{key_fault}
use Rattle.faults.specs.Results.{◌>>=◌, need}
use Rattle.book.specs.Kinds.{Kind}
use Rattle.rules.specs.Script as rules
use Rattle.rules.specs.Script.{read_part}
use Rattle.rules.specs.Check.{check_body}
use Rattle.script.specs.declared.part.Part.{Part}
use Rattle.script.specs.Parts.{away, shown, Lies}

-- One part

abbrev pub over : List Kind → List rules.Part → rules.Part → rules.Scope
over book ps p = record { book = book; below = ps; running = p }

-- the part at the place, checked behind those so far, and the bytes behind it
abbrev pub next_part : List Kind → List rules.Part → ℕ → List ℕ → Result (rules.Part × List ℕ) Fault
next_part book ps place bs = do
  got ← read_part book (length ps) place bs
  _ ← check_body (over book ps got.0)
  Ok got

-- Main

-- main is the last of the parts, if there is one, and has its handles away
abbrev pub check_main : List Part → Result (Unit {0}) Fault
check_main [] = Ok tt
check_main (p ∷ []) = need (away p) (key_fault MainHeld p.place)
check_main (p ∷ q ∷ ps) = check_main (q ∷ ps)

-- All of them

abbrev pub GivesParts : List ℕ → Result (ArrayVec Part) Fault → Result (List rules.Part) Fault → Type 0
GivesParts bs (Ok t) q = (q ≡ Ok (map (shown bs) t.items)) × All (Lies bs) t.items
GivesParts bs (Err e) q = q ≡ Err e

abbrev pub GivesScript : List Kind → List ℕ → Result (ArrayVec Part) Fault → Result rules.Script Fault → Type 0
GivesScript book bs (Ok t) q = (q ≡ Ok (record { book = book; parts = map (shown bs) t.items })) × All (Lies bs) t.items × (length bs ≤ 16384)
GivesScript book bs (Err e) q = q ≡ Err e

abbrev pub parts_of : Result rules.Script Fault → List rules.Part
parts_of (Ok s) = s.parts
parts_of (Err e) = []
