-- The script that is held.
use Rattle.std.specs.Prelude.{◌≡◌, ℕ, List, take, Some, None, Ok, Err, Option, Result}
use Rattle.std.specs.Borrow.{Bor}
use Rattle.faults.specs.declared.fault.Fault.{Fault}
use Rattle.book.specs.Reading.{kinds_of, read_book}
use Rattle.rules.specs.Script as rules
use Rattle.rules.specs.Script.{no_part}
use Rattle.rules.specs.Check.{check_script}
use Rattle.script.specs.declared.part.Part.{Part}
use Rattle.script.specs.declared.script.Script.{Script}
use Rattle.script.specs.Parts.{shown, Lies}
use Rattle.script.specs.Scripts.{parts_of}

abbrev pub book_of : Script → List ℕ
book_of s = s.book.now

abbrev pub script_bytes : Script → List ℕ
script_bytes s = s.bytes.now

-- its parts, without the blank ones
abbrev pub parts_held : Script → List Part
parts_held s = take s.count s.parts

-- the part of the definitions is that of the code, which lies in the bytes, or there is none
abbrev pub IsPart : Script → rules.Part → Option (Bor Part) → Type 0
IsPart s q None = q ≡ no_part
IsPart s q (Some p) = (q ≡ shown (script_bytes s) p.now) × Lies (script_bytes s) p.now

-- the script of the definitions that it is
abbrev pub script_held : Script → rules.Script
script_held s =
    let kinds = kinds_of (read_book (book_of s)) in
    record { book = kinds; parts = parts_of (check_script kinds (script_bytes s)) }

-- what the check answers
abbrev pub verdict : Result rules.Script Fault → Result (Unit {0}) Fault
verdict (Ok s) = Ok tt
verdict (Err e) = Err e
