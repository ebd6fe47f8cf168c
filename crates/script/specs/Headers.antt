-- Parts as they are read from their headers.
use Rattle.std.specs.Prelude.{◌≡◌, ℕ, ◌+◌, Bool, cond, ◌&&◌, List, [], drop, Ok, Err, Result, ◌==◌, nat_lt}
use Rattle.std.specs.List.{enumerate_from, list_all}
use Rattle.faults.specs.declared.fault.Fault.{Fault}
use Rattle.rules.specs.Script as rules
use Rattle.script.specs.declared.part.Handle.{Handle}
use Rattle.script.specs.declared.part.Part.{Part}
use Rattle.script.specs.Parts.{shown, Lies}

-- a part of which the body does not matter
abbrev pub by_header : Part → rules.Part
by_header p = shown [] p

-- of one of so many kinds, from a station to a station
abbrev pub ranged : ℕ → Handle → Bool
ranged kinds h = nat_lt h.kind kinds && (nat_lt h.enters 16 && nat_lt h.leaves 16)

abbrev pub empty_handle : Handle → Bool
empty_handle h = h.kind == 255 && (h.enters == 255 && h.leaves == 255)

-- it has handles, which are in range, and those beyond are empty
abbrev pub handles_fit : ℕ → Part → Bool
handles_fit kinds p = nat_lt 0 p.own && list_all (λ h. cond (nat_lt h.0 p.own) (ranged kinds h.1) (empty_handle h.1)) (enumerate_from 0 p.handles)

-- what the code reads at the place is what the definition reads, and lies in the script with these bytes
abbrev pub GivesPart : List ℕ → ℕ → Result Part Fault → Result (rules.Part × List ℕ) Fault → Type 0
GivesPart bs place (Ok p) q = (q ≡ Ok (shown bs p, drop (28 + p.len) (drop place bs))) × Lies bs p × (p.place ≡ place)
GivesPart bs place (Err e) q = q ≡ Err e
