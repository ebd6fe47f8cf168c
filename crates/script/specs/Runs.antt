-- The RUN of a part, by the parts of the code.
use Rattle.std.specs.Prelude.{ℕ, Bool, cond, ◌&&◌, List, map, take, Ok, Result, ◌==◌, nat_lt, slice_index}
use Rattle.faults.specs.declared.fault.Fault.{Fault}
use Rattle.faults.specs.declared.causes.KeyCause.TheVariants.{BoundTwice, BoundWrong}
use Rattle.faults.specs.Numbers.{key_fault}
use Rattle.faults.specs.Results.{◌>>=◌, need}
use Rattle.protocol.specs.Lists.{all}
use Rattle.rules.specs.Lists.{distinct, from}
use Rattle.rules.specs.Script.{Keys, hand_over}
use Rattle.script.specs.declared.part.Part.{Part}

-- bound to a handle here, or to none beyond theirs
abbrev pub fits : List ℕ → ℕ → ℕ → ℕ → Bool
fits bs theirs ours i = cond (nat_lt i theirs) (nat_lt (slice_index bs i) ours) (slice_index bs i == 255)

-- the bound handle of the running part is of the kind, and at the station, of the handle that is run
abbrev pub suits : Part → Keys → Part → List ℕ → ℕ → Bool
suits q ks p bs i =
    slice_index (map (λ h. h.kind) q.handles) (slice_index bs i) == slice_index (map (λ h. h.kind) p.handles) i
    && slice_index ks (slice_index bs i) == slice_index (map (λ h. h.enters) p.handles) i

abbrev pub run_keys : Part → ℕ → Part → List ℕ → Keys → Result Keys Fault
run_keys q place p bs ks = do
  _ ← need (distinct (take p.own bs)) (key_fault BoundTwice place)
  _ ← need (all (suits q ks p bs) (from 0 p.own)) (key_fault BoundWrong place)
  Ok (hand_over ks (take p.own bs) (map (λ h. h.leaves) p.handles))
