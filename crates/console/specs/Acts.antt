-- What a call of the player, or a look at the ports, answers, and the entries that it wrote.
use Rattle.std.specs.Prelude.{◌≡◌, ℕ, List, [], length, take, Some, None, Ok, Err, OnErr, Option, Result, cond, nat_le}
use Rattle.faults.specs.declared.fault.Fault.{Fault}
use Rattle.protocol.specs.declared.edges.Entry.{Entry}
use Rattle.device.specs.Ports as shown
use Rattle.machine.specs.declared.report.Report.{Report}
use Rattle.machine.specs.Calls.{Begins, Goes, Log, Strikes, look}
use Rattle.machine.specs.Player as machine
use Rattle.machine.specs.Player.{new_player}
use Rattle.console.specs.declared.answer.Answer.{Answer}
use Rattle.console.specs.declared.answer.Answer.TheVariants as answers
use Rattle.console.specs.declared.answer.Answer.TheVariants.{Begun, Went, Looked, Struck, NotUnderstood}
use Rattle.console.specs.declared.desk.Desk.{Desk}
use Rattle.console.specs.declared.stage.StageCommand.{StageCommand}
use Rattle.console.specs.declared.stage.StageCommand.TheVariants.{Player, Begin, Go, Look, Strike, Ports}
use Rattle.console.specs.Answers.{ports_answer}
use Rattle.console.specs.Held.{Held, with_player, with_stage}

-- how many entries stand in the log
abbrev pub letters_in : Answer → ℕ
letters_in (answers.Book r) = 0
letters_in (answers.Script r) = 0
letters_in (answers.Rig r) = 0
letters_in answers.Player = 0
letters_in (Begun r) = 0
letters_in (Went (Ok report)) = report.letters
letters_in (Went (Err fault)) = 0
letters_in (Looked r) = 0
letters_in (Struck (Ok letters)) = letters
letters_in (Struck (Err fault)) = 0
letters_in (answers.Ports lines) = 0
letters_in (NotUnderstood number) = 0

abbrev pub entries_of : Desk → Answer → List Entry
entries_of d answer = take (letters_in answer) d.log

abbrev pub entries_for : Desk → Option Answer → List Entry
entries_for d None = []
entries_for d (Some answer) = entries_of d answer

-- What an answer leaves of the log, as a value: only an accepted go or strike may change it.
abbrev pub LeavesLog : {L : Type 0} → Answer → L → L → Type 0
LeavesLog (Went r) log log' = OnErr r (log' ≡ log)
LeavesLog (Struck r) log log' = OnErr r (log' ≡ log)
LeavesLog answer log log' = log' ≡ log

-- what an answer leaves of the rig that is held, as a value: the same, but that a new rig takes its place
abbrev pub LeavesRig : {R : Type 0} → Answer → R → R → Type 0
LeavesRig (answers.Rig r) rig rig' = OnErr r (rig' ≡ rig)
LeavesRig answer rig rig' = LeavesLog answer rig rig'

-- a line that is not answered leaves it as well
abbrev pub LeavesFor : {X : Type 0} → (Answer → X → X → Type 0) → Option Answer → X → X → Type 0
LeavesFor leaves None x x' = x' ≡ x
LeavesFor leaves (Some answer) x x' = leaves answer x x'

-- a log has at most 4096 entries
abbrev pub room_of : ℕ → ℕ
room_of room = cond (nat_le room 4096) room 4096

-- it has no entries and leaves all as it was
abbrev pub Only : Held → Answer → Answer → List Entry → Held → Type 0
Only held expected answer es held' = (answer ≡ expected) × (es ≡ []) × (held' ≡ held)

abbrev pub BeginsOn : ℕ → Held → Option shown.Ports → Answer → List Entry → Held → Type 0
BeginsOn number held None answer es held' = Only held (NotUnderstood number) answer es held'
BeginsOn number held (Some g) answer es held' =
    (r : Result ℕ Fault) × (p : machine.Player)
    × Begins held.player held.script g r p × (answer ≡ Begun r) × (es ≡ []) × (held' ≡ with_player held p)

-- a go with some log of that length, and its entries
abbrev pub GoesIn : machine.Player → ℕ → ℕ → shown.Ports → Result Report Fault → List Entry → machine.Player → shown.Ports → Type 0
GoesIn p n room g r es p' g' =
    (own : ℕ) × (log : Log) × (log' : Log)
    × Goes p n g log r own p' g' log' × (length log ≡ room) × (es ≡ take (letters_in (Went r)) log')

abbrev pub GoesOn : ℕ → Held → ℕ → ℕ → Option shown.Ports → Answer → List Entry → Held → Type 0
GoesOn number held n room None answer es held' = Only held (NotUnderstood number) answer es held'
GoesOn number held n room (Some g) answer es held' =
    (r : Result Report Fault) × (p : machine.Player) × (g' : shown.Ports)
    × GoesIn held.player n room g r es p g' × (answer ≡ Went r) × (held' ≡ with_stage held p g')

-- a strike with some log of that length, and its entries
abbrev pub StrikesIn : machine.Player → ℕ → shown.Ports → Result ℕ Fault → List Entry → machine.Player → shown.Ports → Type 0
StrikesIn p room g r es p' g' =
    (log : Log) × (log' : Log)
    × Strikes p g log r p' g' log' × (length log ≡ room) × (es ≡ take (letters_in (Struck r)) log')

abbrev pub StrikesOn : ℕ → Held → ℕ → Option shown.Ports → Answer → List Entry → Held → Type 0
StrikesOn number held room None answer es held' = Only held (NotUnderstood number) answer es held'
StrikesOn number held room (Some g) answer es held' =
    (r : Result ℕ Fault) × (p : machine.Player) × (g' : shown.Ports)
    × StrikesIn held.player room g r es p g' × (answer ≡ Struck r) × (held' ≡ with_stage held p g')

-- the answer to a command in the line of that number, its entries, and what is held after it
abbrev pub Acts : ℕ → Held → StageCommand → Answer → List Entry → Held → Type 0
Acts number held Player answer es held' = (answer ≡ answers.Player) × (es ≡ []) × (held' ≡ with_player held new_player)
Acts number held Begin answer es held' = BeginsOn number held held.rig answer es held'
Acts number held (Go n room) answer es held' = GoesOn number held n (room_of room) held.rig answer es held'
Acts number held (Look i) answer es held' = Only held (Looked (look held.player i)) answer es held'
Acts number held (Strike room) answer es held' = StrikesOn number held (room_of room) held.rig answer es held'
Acts number held Ports answer es held' = Only held (ports_answer number held.rig) answer es held'
