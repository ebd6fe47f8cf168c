-- Runs: calls on one player and one rig, each from what those before it left.
use Rattle.std.specs.Prelude.{◌≡◌, ℕ, ◌+◌, Bool, true, false, cond, List, [], ◌∷◌, ◌++◌, take, Ok, Err, Result}
use Rattle.faults.specs.declared.fault.Fault.{Fault}
use Rattle.protocol.specs.declared.edges.Entry.{Entry}
use Rattle.device.specs.Ports.{Ports}
use Rattle.rules.specs.Script.{Script}
use Rattle.rules.specs.Check.{Passed}
use Rattle.machine.specs.declared.report.Reason.{Reason}
use Rattle.machine.specs.declared.report.Reason.TheVariants.{End, Spent, Cue, Failed}
use Rattle.machine.specs.declared.report.Report.{Report}
use Rattle.machine.specs.Player.{Player, new_player}
use Rattle.machine.specs.Calls.{Log, Begins, Goes, Looks, Strikes}

-- Calls

-- what stands between two calls
pub record Scene : Type 0 where
  pub player : Player
  pub rig : Ports

-- a new player on the rig
abbrev pub first_scene : Ports → Scene
first_scene g = record { player = new_player; rig = g }

-- a call with its arguments and answers; a go also with its count of letters sent by commands
pub data Call : Type 0 where
  begins : Script → Result ℕ Fault → Call
  goes : (n : ℕ) → Log → Result Report Fault → (own : ℕ) → Log → Call
  looks : (port : ℕ) → Result (ℕ × Bool) Fault → Call
  strikes : Log → Result ℕ Fault → Log → Call

-- the call may take one scene to the other
abbrev pub Does : Call → Scene → Scene → Type 0
Does (begins s r) x y = Passed s × Begins x.player s x.rig r y.player × (y.rig ≡ x.rig)
Does (goes n log r own log') x y = Goes x.player n x.rig log r own y.player y.rig log'
Does (looks i r) x y = Looks x.player i r y.player × (y.rig ≡ x.rig)
Does (strikes log r log') x y = Strikes x.player x.rig log r y.player y.rig log'

-- The joined log

-- the entries that a call adds: as many as the letters that it answers
abbrev pub joins : Call → List Entry
joins (begins s r) = []
joins (goes n log (Ok r) own log') = take r.letters log'
joins (goes n log (Err e) own log') = []
joins (looks i r) = []
joins (strikes log (Ok k) log') = take k log'
joins (strikes log (Err e) log') = []

-- calls one after the other, with the joined log
pub data Run (start : Scene) : List Entry → Scene → Type 0 where
  started : Run start [] start
  called : (js : List Entry) (x y : Scene) (c : Call) → Run start js x → Does c x y → Run start (js ++ joins c) y

-- which calls they are, the first one first
abbrev pub calls_of : {start : Scene} {js : List Entry} {x : Scene} → Run start js x → List Call
calls_of started = []
calls_of (called js x y c r d) = calls_of r ++ (c ∷ [])

-- What a call may add

-- a letter for each step of a go, and 15 for each of eight ports in a fault exit
abbrev pub most : Call → ℕ
most (begins s r) = 0
most (goes n log r own log') = n + 120
most (looks i r) = 0
most (strikes log r log') = 120

abbrev pub is_failed : Reason → Bool
is_failed End = false
is_failed Spent = false
is_failed (Cue n) = false
is_failed (Failed c p) = true

-- how many entries come before the call's fault exit: one for each SEND and ASK of a go that failed, none of a strike's,
-- and all of a go that had no fault exit
abbrev pub before_exit : Call → ℕ
before_exit (begins s r) = 0
before_exit (goes n log (Ok r) own log') = cond (is_failed r.reason) own r.letters
before_exit (goes n log (Err e) own log') = 0
before_exit (looks i r) = 0
before_exit (strikes log r log') = 0

abbrev pub is_final : Reason → Bool
is_final End = true
is_final Spent = false
is_final (Cue n) = false
is_final (Failed c p) = true

-- a go that answers end or failed, or an accepted strike
abbrev pub closes : Call → Bool
closes (begins s r) = false
closes (goes n log (Ok r) own log') = is_final r.reason
closes (goes n log (Err e) own log') = false
closes (looks i r) = false
closes (strikes log (Ok k) log') = true
closes (strikes log (Err e) log') = false
