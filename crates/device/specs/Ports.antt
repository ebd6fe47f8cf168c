-- What a rig means: the meanings of its ports, in order.
use Rattle.std.specs.Prelude.{ℕ, zero, suc, Bool, false, List, [], ◌∷◌, None}
use Rattle.protocol.specs.Tables.{Table, same_table}
use Rattle.device.specs.Meaning.{Meaning, Hears}

abbrev pub Ports : Type 0
Ports = List Meaning

-- none, 16, 0 and no at a missing port
abbrev pub edge_at : Ports → ℕ → Table
edge_at [] p s l a = None
edge_at (m ∷ g) zero s l a = m.table s l a
edge_at (m ∷ g) (suc p) s l a = edge_at g p s l a

abbrev pub station_at : Ports → ℕ → ℕ
station_at [] p = 16
station_at (m ∷ g) zero = m.station
station_at (m ∷ g) (suc p) = station_at g p

abbrev pub heard_at : Ports → ℕ → ℕ
heard_at [] p = 0
heard_at (m ∷ g) zero = m.heard
heard_at (m ∷ g) (suc p) = heard_at g p

abbrev pub has_table_at : Ports → ℕ → Table → Bool
has_table_at [] p t = false
has_table_at (m ∷ g) zero t = same_table m.table t
has_table_at (m ∷ g) (suc p) t = has_table_at g p t

-- a letter changes its port's device alone; a missing port answers 255
pub data RigHears : Ports → ℕ → ℕ → ℕ → Ports → Type 0 where
  here : {m m' : Meaning} {g : Ports} {l a : ℕ} → Hears m l a m' → RigHears (m ∷ g) zero l a (m' ∷ g)
  there : {m : Meaning} {g g' : Ports} {p l a : ℕ} → RigHears g p l a g' → RigHears (m ∷ g) (suc p) l a (m ∷ g')
  missing : {p l : ℕ} → RigHears [] p l 255 []
