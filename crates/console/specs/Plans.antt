-- What a line says of devices, and what they mean once they are built.
use Rattle.std.specs.Prelude.{ℕ, cond, List, [], ◌∷◌, length, map, vec_items, Some, None, Ok, Option, Result, nat_le}
use Rattle.faults.specs.declared.fault.Fault.{Fault}
use Rattle.faults.specs.Results.{◌>>=◌}
use Rattle.device.specs.Meaning.{Meaning}
use Rattle.console.specs.declared.layer.Layer.{Layer}
use Rattle.console.specs.declared.plan.Plan.{Plan}
use Rattle.console.specs.Layers.{built}

-- layers, the outermost first, over a projector with replies
pub record Planned : Type 0 where
  pub layers : List Layer
  pub replies : List ℕ

abbrev pub planned : Plan → Planned
planned p = record { layers = vec_items p.layers; replies = vec_items p.replies }

-- at most eight layers
abbrev pub plan_of : List Layer → List ℕ → Option Planned
plan_of ls rs = cond (nat_le (length ls) 8) (Some (record { layers = ls; replies = rs })) None

-- what each projector will answer
abbrev pub replies_in : List Planned → List (List ℕ)
replies_in ps = map (λ p. p.replies) ps

-- what the devices mean, or the fault of the first map that breaks its rule
abbrev pub mounted : List Planned → Result (List Meaning) Fault
mounted [] = Ok []
mounted (p ∷ ps) = do
  first ← built p.layers
  rest ← mounted ps
  Ok (first ∷ rest)
