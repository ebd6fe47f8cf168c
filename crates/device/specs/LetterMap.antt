-- A map that renames letters, and the tables under it.
use Rattle.std.specs.Prelude.{ℕ, cond, ◌&&◌, List, length, map, None, Ok, Err, Option, Result, ◌==◌, nat_lt, slice_index_or}
use Rattle.faults.specs.declared.causes.StageCause.TheVariants.{BadMap}
use Rattle.faults.specs.declared.fault.Fault.{Fault}
use Rattle.faults.specs.Numbers.{nowhere, stage_fault}
use Rattle.std.specs.List.{list_all}
use Rattle.device.specs.declared.letter_map.LetterMap.{LetterMap}
use Rattle.device.specs.Letters.{letter_of, letter_or_none, AreLetters-of}

abbrev pub letters_in : List ℕ → LetterMap
letters_in bs = record { letters = map letter_of bs; known = AreLetters-of bs }

-- sixteen bytes, each a letter or 255
abbrev pub map_from : List ℕ → Result LetterMap Fault
map_from bs = cond (length bs == 16 && list_all letter_or_none bs) (Ok (letters_in bs)) (Err (stage_fault BadMap nowhere))

-- the letter below a letter
abbrev pub down : LetterMap → ℕ → Option ℕ
down m l = cond (nat_lt l 16) (slice_index_or m.letters l None) None
