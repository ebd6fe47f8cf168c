-- The parts of the code, and where a body is checked.
use Rattle.std.specs.Prelude.{ℕ, ◌+◌, ◌≤◌, Bool, ◌&&◌, List, map, length, take, drop, ◌==◌}
use Rattle.std.specs.List.{list_all}
use Rattle.rules.specs.Script as rules
use Rattle.script.specs.declared.part.Handle.{Handle}
use Rattle.script.specs.declared.part.Part.{Part}

abbrev pub no_handle : Handle
no_handle = record { kind = 0; enters = 0; leaves = 0 }

-- the part of a script with these bytes
abbrev pub shown : List ℕ → Part → rules.Part
shown bs p = record {
  place = p.place;
  handles = p.own;
  kinds = map (λ h. h.kind) p.handles;
  ins = map (λ h. h.enters) p.handles;
  outs = map (λ h. h.leaves) p.handles;
  body = record { place = p.place + 28; bytes = take p.len (drop (p.place + 28) bs) };
}

-- its body lies in the script
abbrev pub Lies : List ℕ → Part → Type 0
Lies bs p = p.place + 28 + p.len ≤ length bs

-- every handle is away at both ends
abbrev pub away : Part → Bool
away p = list_all (λ h. h.enters == 0 && h.leaves == 0) (take p.own p.handles)
