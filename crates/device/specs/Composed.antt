-- A rig that is built of devices is a row of them.
use Rattle.std.specs.Prelude.{◌≡◌, ℕ, ◌<◌, min, List, [], ◌∷◌, length, get_or, slice_index_or, slice_set}
use Rattle.device.specs.Meaning.{Meaning, Hears}
use Rattle.device.specs.Ports.{Ports, RigHears, edge_at, heard_at, station_at}
use Rattle.device.specs.Built.{single_ports, before_ports, row_ports}

-- the first device before the others, each before the next, and the last alone
abbrev pub nested : Meaning → List Meaning → Ports
nested m [] = single_ports m
nested m (n ∷ ms) = before_ports m (nested n ms)

-- the number is that of a port
abbrev pub IsPort : List Meaning → ℕ → Type 0
IsPort ms p = (p < 8) × (p < length ms)

-- the port's device hears the letter, and no other changes
abbrev pub DeviceHears : Meaning → List Meaning → ℕ → ℕ → ℕ → Ports → Type 0
DeviceHears m ms p l a g = (m' : Meaning) × Hears (slice_index_or (m ∷ ms) p m) l a m' × (g ≡ row_ports (slice_set (m ∷ ms) p m'))

-- ports that stand for the devices: each shows what its device shows, and a letter to it is a letter to the device
pub record RowOf (m : Meaning) (ms : List Meaning) (g : Ports) : Type 0 where
  pub ports : g ≡ row_ports (m ∷ ms)
  pub count : length g ≡ min 8 (length (m ∷ ms))
  pub edges : (p s l a : ℕ) → IsPort (m ∷ ms) p → edge_at g p s l a ≡ (get_or (m ∷ ms) p m).table s l a
  pub stations : (p : ℕ) → IsPort (m ∷ ms) p → station_at g p ≡ (get_or (m ∷ ms) p m).station
  pub heards : (p : ℕ) → IsPort (m ∷ ms) p → heard_at g p ≡ (get_or (m ∷ ms) p m).heard
  pub asks : (p l a : ℕ) (g' : Ports) → IsPort (m ∷ ms) p → RigHears g p l a g' → DeviceHears m ms p l a g'
  pub asked : (p l a : ℕ) (g' : Ports) → IsPort (m ∷ ms) p → DeviceHears m ms p l a g' → RigHears g p l a g'
  pub missing : (p l a : ℕ) (g' : Ports) → (IsPort (m ∷ ms) p → ⊥) → RigHears g p l a g' → (a ≡ 255) × (g' ≡ g)
  pub silent : (p l : ℕ) → (IsPort (m ∷ ms) p → ⊥) → RigHears g p l 255 g

-- any devices, each before the next, stand for themselves, and so do they in a row
abbrev pub RigsCompose : Type 0
RigsCompose = (m : Meaning) (ms : List Meaning) → RowOf m ms (nested m ms) × RowOf m ms (row_ports (m ∷ ms))
