-- The calls begin, go, look and strike, with their refusals in order.
-- A refused call leaves the player, the rig and the log as they were.
use Rattle.std.specs.Prelude.{◌≡◌, ℕ, suc, ◌+◌, Bool, not, ◌&&◌, List, [], ◌∷◌, ◌++◌, length, drop, Ok, Err, Result, ◌==◌, nat_eq, nat_le, nat_lt}
use Rattle.faults.specs.declared.fault.Fault.{Fault}
use Rattle.faults.specs.declared.causes.StageCause.{StageCause}
use Rattle.faults.specs.declared.causes.StageCause.TheVariants.{NotOver, OtherCount, OtherTable, NotAway, Over, BadBudget, ShortLog, RigChanged, NoSuchPort}
use Rattle.faults.specs.Numbers.{nowhere, stage_fault}
use Rattle.faults.specs.Results.{◌>>=◌, need}
use Rattle.protocol.specs.declared.edges.Entry.{Entry}
use Rattle.protocol.specs.Tables.{same_table}
use Rattle.device.specs.Meaning.{Meaning}
use Rattle.device.specs.Ports.{Ports}
use Rattle.rules.specs.Script.{Script}
use Rattle.machine.specs.declared.report.Report.{Report}
use Rattle.machine.specs.Dialogue.{Plays}
use Rattle.machine.specs.Player.{Player, main, begun, port_table, kept}
use Rattle.machine.specs.Exits.{fault_exit}
use Rattle.machine.specs.Going.{go_on}

abbrev pub Log : Type 0
Log = List Entry

-- the entries from the first on, and the others as they were
abbrev pub written : List Entry → Log → Log
written es log = es ++ drop (length es) log

-- Ports

-- the lowest port, counted from the number, at which the test fails
abbrev pub each_port : StageCause → (ℕ → Meaning → Bool) → ℕ → Ports → Result (Unit {0}) Fault
each_port cause test i [] = Ok tt
each_port cause test i (m ∷ g) = need (test i m) (stage_fault cause i) >>= (λ _. each_port cause test (suc i) g)

-- the device's table is that of the port's kind
abbrev pub table_fits : Player → ℕ → Meaning → Bool
table_fits p i m = same_table m.table (port_table p.script i)

-- Begin

abbrev pub begin : Player → Script → Ports → Result Player Fault
begin p s g = do
  _ ← need p.over (stage_fault NotOver nowhere)
  _ ← need ((main s).handles == length g) (stage_fault OtherCount nowhere)
  _ ← each_port OtherTable (table_fits (begun s)) 0 g
  _ ← each_port NotAway (λ i m. nat_eq m.station 0) 0 g
  Ok (begun s)

-- the answer is the count of ports
abbrev pub Begins : Player → Script → Ports → Result ℕ Fault → Player → Type 0
Begins p s g (Ok k) p' = (begin p s g ≡ Ok p') × (k ≡ length g)
Begins p s g (Err e) p' = (begin p s g ≡ Err e) × (p' ≡ p)

-- Go and strike

-- the rig is as the player keeps it: the count of ports, their tables and their stations
abbrev pub rig_kept : Player → Ports → Result (Unit {0}) Fault
rig_kept p g = do
  _ ← need (length p.stations == length g) (stage_fault RigChanged nowhere)
  each_port RigChanged (λ i m. table_fits p i m && m.station == kept p i) 0 g

abbrev pub may_go : Player → ℕ → Ports → Log → Result (Unit {0}) Fault
may_go p n g log = do
  _ ← need (not p.over) (stage_fault Over nowhere)
  _ ← need (nat_lt 0 n && nat_le n 1000) (stage_fault BadBudget nowhere)
  _ ← need (nat_le (n + 120) (length log)) (stage_fault ShortLog nowhere)
  rig_kept p g

-- of the letters of an accepted go, some are its commands' own, and those after them a fault exit's
abbrev pub Goes : Player → ℕ → Ports → Log → Result Report Fault → ℕ → Player → Ports → Log → Type 0
Goes p n g log (Ok r) own p' g' log' =
    (may_go p n g log ≡ Ok tt)
    × ((es : List Entry)
    × Plays (go_on n 0 0 p) g es g' (record { reason = r.reason; steps = r.steps; own = own }, p')
    × (r.letters ≡ length es)
    × (log' ≡ written es log))
Goes p n g log (Err e) own p' g' log' = (may_go p n g log ≡ Err e) × (p' ≡ p) × (g' ≡ g) × (log' ≡ log)

abbrev pub may_strike : Player → Ports → Log → Result (Unit {0}) Fault
may_strike p g log = do
  _ ← need (not p.over) (stage_fault Over nowhere)
  _ ← need (nat_le 120 (length log)) (stage_fault ShortLog nowhere)
  rig_kept p g

-- the answer is the count of letters
abbrev pub Strikes : Player → Ports → Log → Result ℕ Fault → Player → Ports → Log → Type 0
Strikes p g log (Ok k) p' g' log' =
    (may_strike p g log ≡ Ok tt)
    × ((es : List Entry) × Plays (fault_exit p) g es g' p' × (k ≡ length es) × (log' ≡ written es log))
Strikes p g log (Err e) p' g' log' = (may_strike p g log ≡ Err e) × (p' ≡ p) × (g' ≡ g) × (log' ≡ log)

-- Look

-- the kept station, and whether the player is over
abbrev pub look : Player → ℕ → Result (ℕ × Bool) Fault
look p i = do
  _ ← need (nat_lt i (length p.stations)) (stage_fault NoSuchPort i)
  Ok (kept p i, p.over)

abbrev pub Looks : Player → ℕ → Result (ℕ × Bool) Fault → Player → Type 0
Looks p i r p' = (r ≡ look p i) × (p' ≡ p)
