-- Ports by their numbers: what each shows, and what a letter to it does.
use Rattle.std.proofs.Common.{◌≡◌, ℕ, zero, suc, ◌<◌, ◌≤◌, false, [], ◌∷◌, length, get_or, set, None, refl, ap, arith}
use Rattle.protocol.specs.Tables.{Table, same_table}
use Rattle.device.specs.Meaning.{Meaning, Hears}
use Rattle.device.specs.Ports.{Ports, RigHears, here, there, missing, edge_at, has_table_at, heard_at, station_at}

-- A port shows what its device shows

pub edge_of : (g : Ports) (d : Meaning) (p s l a : ℕ) → p < length g → edge_at g p s l a ≡ (get_or g p d).table s l a
edge_of [] d p s l a h = absurd (omega arith)
edge_of (m ∷ g) d zero s l a h = refl
edge_of (m ∷ g) d (suc p) s l a h = edge_of g d p s l a (omega arith)

pub station_of : (g : Ports) (d : Meaning) (p : ℕ) → p < length g → station_at g p ≡ (get_or g p d).station
station_of [] d p h = absurd (omega arith)
station_of (m ∷ g) d zero h = refl
station_of (m ∷ g) d (suc p) h = station_of g d p (omega arith)

pub heard_of : (g : Ports) (d : Meaning) (p : ℕ) → p < length g → heard_at g p ≡ (get_or g p d).heard
heard_of [] d p h = absurd (omega arith)
heard_of (m ∷ g) d zero h = refl
heard_of (m ∷ g) d (suc p) h = heard_of g d p (omega arith)

pub table_of_port : (g : Ports) (p : ℕ) (t : Table) → p < length g → has_table_at g p t ≡ same_table (edge_at g p) t
table_of_port [] p t h = absurd (omega arith)
table_of_port (m ∷ g) zero t h = refl
table_of_port (m ∷ g) (suc p) t h = table_of_port g p t (omega arith)

-- A letter to a port goes to its device
pub port_hears : {g g' : Ports} {p l a : ℕ} (d : Meaning) → p < length g → RigHears g p l a g' →
    (m' : Meaning) × Hears (get_or g p d) l a m' × (g' ≡ set g p m')
port_hears d h (here {m' = m'} q) = (m', q, refl)
port_hears d h (there {m} r) = let w = port_hears d (omega arith) r in (w.0, w.1, ap {B = Ports} (λ (v : Ports). m ∷ v) w.2)
port_hears d h missing = absurd (omega arith)

pub hears_port : (g : Ports) (d : Meaning) (p l a : ℕ) (m' : Meaning) → p < length g → Hears (get_or g p d) l a m' → RigHears g p l a (set g p m')
hears_port [] d p l a m' h q = absurd (omega arith)
hears_port (m ∷ g) d zero l a m' h q = here q
hears_port (m ∷ g) d (suc p) l a m' h q = there (hears_port g d p l a m' (omega arith) q)

-- Past the last port

pub no_edge : (g : Ports) (p s l a : ℕ) → length g ≤ p → edge_at g p s l a ≡ None
no_edge [] p s l a h = refl
no_edge (m ∷ g) zero s l a h = absurd (omega arith)
no_edge (m ∷ g) (suc p) s l a h = no_edge g p s l a (omega arith)

pub no_station : (g : Ports) (p : ℕ) → length g ≤ p → station_at g p ≡ 16
no_station [] p h = refl
no_station (m ∷ g) zero h = absurd (omega arith)
no_station (m ∷ g) (suc p) h = no_station g p (omega arith)

pub no_heard : (g : Ports) (p : ℕ) → length g ≤ p → heard_at g p ≡ 0
no_heard [] p h = refl
no_heard (m ∷ g) zero h = absurd (omega arith)
no_heard (m ∷ g) (suc p) h = no_heard g p (omega arith)

pub no_table : (g : Ports) (p : ℕ) (t : Table) → length g ≤ p → has_table_at g p t ≡ false
no_table [] p t h = refl
no_table (m ∷ g) zero t h = absurd (omega arith)
no_table (m ∷ g) (suc p) t h = no_table g p t (omega arith)

pub past_ports : (g : Ports) (p l : ℕ) → length g ≤ p → RigHears g p l 255 g
past_ports [] p l h = missing
past_ports (m ∷ g) zero l h = absurd (omega arith)
past_ports (m ∷ g) (suc p) l h = there (past_ports g p l (omega arith))

pub none_hears : {g g' : Ports} {p l a : ℕ} → length g ≤ p → RigHears g p l a g' → (a ≡ 255) × (g' ≡ g)
none_hears h (here q) = absurd (omega arith)
none_hears h (there {m} r) = let w = none_hears (omega arith) r in (w.0, ap {B = Ports} (λ (v : Ports). m ∷ v) w.1)
none_hears h missing = (refl, refl)
