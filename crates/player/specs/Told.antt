-- What a dialogue came to, its entries written from the log's first on.
use Rattle.std.specs.Prelude.{◌≡◌, ℕ, List, length}
use Rattle.protocol.specs.declared.edges.Entry.{Entry}
use Rattle.device.specs.Ports.{Ports}
use Rattle.machine.specs.declared.report.Report.{Report}
use Rattle.machine.specs.Player.{Player}
use Rattle.machine.specs.Dialogue.{Dialogue, Plays}
use Rattle.machine.specs.Going.{go_on}
use Rattle.machine.specs.Calls.{Log, written}

-- so many letters were sent
abbrev pub Told : {X : Type 0} → Dialogue X → Ports → Log → ℕ → X → Ports → Log → Type 0
Told t g log k x g' log' = (es : List Entry) × Plays t g es g' x × (k ≡ length es) × (log' ≡ written es log)

-- a go of at most so many steps, with its report; some of its letters are its commands' own
abbrev pub Went : ℕ → Player → Ports → Log → Report → Player → Ports → Log → Type 0
Went n p g log r p' g' log' = (own : ℕ) × Told (go_on n 0 0 p) g log r.letters (record { reason = r.reason; steps = r.steps; own = own }, p') g' log'
