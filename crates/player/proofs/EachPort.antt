-- The ports of a rig in rising order, up to the first that fails a test.
use Rattle.std.proofs.Common.{◌≡◌, ℕ, zero, suc, ◌+◌, ◌<◌, Bool, true, false, ◌&&◌, [], ◌∷◌, length, drop, Err, Result, sym, refl, ap, ◌∙◌, arith, ◌==◌}
use Rattle.faults.specs.declared.fault.Fault.{Fault}
use Rattle.faults.specs.declared.causes.StageCause.{StageCause}
use Rattle.faults.specs.Numbers.{stage_fault}
use Rattle.faults.specs.Results.{need, ◌>>=◌}
use Rattle.protocol.specs.Tables.{Table, same_table}
use Rattle.device.specs.Meaning.{Meaning}
use Rattle.device.specs.Ports.{Ports, edge_at, station_at}
use Rattle.machine.specs.Player.{Player, kept, port_table}
use Rattle.machine.specs.Calls.{each_port, table_fits}

-- a port that is there, with its device
pub record There (g : Ports) (i : ℕ) : Type 0 where
  pub device : Meaning
  pub cut : drop i g ≡ device ∷ drop (suc i) g
  pub station : station_at g i ≡ device.station
  pub table : edge_at g i ≡ device.table

there : (g : Ports) (i : ℕ) → i < length g → There g i
there [] i lt = absurd (omega arith)
there (m ∷ g) zero lt = record { device = m; cut = refl; station = refl; table = refl }
there (m ∷ g) (suc i) lt = let w = there g i (omega arith) in record { device = w.device; cut = w.cut; station = w.station; table = w.table }

module _ {g : Ports} {i : ℕ} (w : There g i) where
  pub table_there : (p : Player) → table_fits p i w.device ≡ same_table (edge_at g i) (port_table p.script i)
  table_there p = ap (λ (t : Table). same_table t (port_table p.script i)) (sym w.table)

  pub station_there : (s : ℕ) → (w.device.station == s) ≡ (station_at g i == s)
  station_there s = ap (λ v. v == s) (sym w.station)

  pub kept_there : (p : Player) → (table_fits p i w.device && (w.device.station == kept p i)) ≡ (same_table (edge_at g i) (port_table p.script i) && (station_at g i == kept p i))
  kept_there p j = table_there p j && station_there (kept p i) j

module _ (cause : StageCause) (test : ℕ → Meaning → Bool) (g : Ports) (i : ℕ) where
  -- what is left of the ports is tried
  abbrev pub tried : Result (Unit {0}) Fault
  tried = each_port cause test i (drop i g)

  by_test : (b : Bool) → i < length g → ((w : There g i) → test i w.device ≡ b) → tried ≡ (need b (stage_fault cause i) >>= (λ _. each_port cause test (suc i) (drop (suc i) g)))
  by_test b lt e =
      let w = there g i lt in
      ap (each_port cause test i) w.cut ∙ ap (λ v. need v (stage_fault cause i) >>= (λ _. each_port cause test (suc i) (drop (suc i) g))) (e w)

  pub port_stops : i < length g → ((w : There g i) → test i w.device ≡ false) → tried ≡ Err (stage_fault cause i)
  port_stops lt e = by_test false lt e

  pub port_passes : i < length g → ((w : There g i) → test i w.device ≡ true) → tried ≡ each_port cause test (i + 1) (drop (i + 1) g)
  port_passes lt e = by_test true lt e ∙ (let z : suc i ≡ i + 1 = omega arith in ap (λ j. each_port cause test j (drop j g)) z)
