-- What the console answers.
use Rattle.std.specs.Prelude.{ℕ, Bool, true, false, List, [], ◌∷◌, ◌++◌, length, Some, None, Ok, Err, codes, decimal, Option, Result}
use Rattle.std.specs.List.{flat_map}
use Rattle.faults.specs.declared.fault.Fault.{Fault}
use Rattle.faults.specs.Numbers.{number_of}
use Rattle.protocol.specs.declared.edges.Entry.{Entry}
use Rattle.rules.specs.Script as rules
use Rattle.device.specs.Built.{row_ports}
use Rattle.device.specs.Meaning.{Meaning}
use Rattle.device.specs.Ports as shown
use Rattle.machine.specs.declared.report.Report.{Report}
use Rattle.machine.specs.declared.report.Reason.{Reason}
use Rattle.machine.specs.declared.report.Reason.TheVariants.{End, Spent, Cue, Failed}
use Rattle.console.specs.declared.ports.PortLine.{PortLine}
use Rattle.console.specs.Ports.{by_port, port_lines}
use Rattle.console.specs.declared.answer.Answer.{Answer}
use Rattle.console.specs.declared.answer.Answer.TheVariants.{Book, Script, Rig, Player, Begun, Went, Looked, Struck, Ports, NotUnderstood}

-- how many kinds a book has, or why it is none
abbrev pub count_kinds : {K : Type 0} → Result (List K) Fault → Result ℕ Fault
count_kinds (Ok kinds) = Ok (length kinds)
count_kinds (Err fault) = Err fault

-- how many parts a script has, or why it is none
abbrev pub count_parts : Result rules.Script Fault → Result ℕ Fault
count_parts (Ok s) = Ok (length s.parts)
count_parts (Err fault) = Err fault

-- to a rig of devices that mean so; without a device it is none
abbrev pub rig_answer : ℕ → Result (List Meaning) Fault → Answer
rig_answer number (Ok []) = NotUnderstood number
rig_answer number (Ok (m ∷ ms)) = Rig (Ok (length (row_ports (m ∷ ms))))
rig_answer number (Err fault) = Rig (Err fault)

-- there may be no rig
abbrev pub ports_answer : ℕ → Option shown.Ports → Answer
ports_answer number None = NotUnderstood number
ports_answer number (Some g) = Ports (by_port (port_lines g))

-- nothing, where there is no port
abbrev pub port_text : Option PortLine → List ℕ
port_text None = []
port_text (Some l) = codes "port " ++ (decimal l.port ++ (codes " station " ++ (decimal l.station ++ (codes ", heard " ++ (decimal l.heard ++ codes "\n")))))

-- why a go stopped
abbrev pub reason_text : Reason → List ℕ
reason_text End = codes "end"
reason_text Spent = codes "spent"
reason_text (Cue number) = codes "cue " ++ decimal number
reason_text (Failed code place) = codes "failed " ++ (decimal code ++ (codes " at " ++ decimal place))

abbrev pub report_text : Report → List ℕ
report_text r = codes "go " ++ (reason_text r.reason ++ (codes ", " ++ (decimal r.steps ++ (codes " steps, " ++ (decimal r.letters ++ codes " letters\n")))))

abbrev pub over_text : Bool → List ℕ
over_text true = codes "over"
over_text false = codes "begun"

abbrev pub look_text : ℕ → Bool → List ℕ
look_text station over = codes "look station " ++ (decimal station ++ (codes ", " ++ (over_text over ++ codes "\n")))

abbrev pub entry_text : Entry → List ℕ
entry_text e =
    codes "  " ++ (decimal e.port ++ (codes " " ++ (decimal e.letter ++ (codes " " ++ (decimal e.answer ++ (codes " " ++ (decimal e.station ++ codes "\n")))))))

abbrev pub refused : List ℕ → Fault → List ℕ
refused what fault = what ++ (codes " refused " ++ (decimal (number_of fault.cause) ++ (codes " at " ++ (decimal fault.place ++ codes "\n"))))

abbrev pub answer_text : Answer → List ℕ
answer_text (Book (Ok kinds)) = codes "book passed, " ++ (decimal kinds ++ codes " kinds\n")
answer_text (Book (Err fault)) = refused (codes "book") fault
answer_text (Script (Ok parts)) = codes "script passed, " ++ (decimal parts ++ codes " parts\n")
answer_text (Script (Err fault)) = refused (codes "script") fault
answer_text (Rig (Ok ports)) = codes "rig " ++ (decimal ports ++ codes " ports\n")
answer_text (Rig (Err fault)) = refused (codes "rig") fault
answer_text Player = codes "player new\n"
answer_text (Begun (Ok ports)) = codes "begun, " ++ (decimal ports ++ codes " ports\n")
answer_text (Begun (Err fault)) = refused (codes "begin") fault
answer_text (Went (Ok report)) = report_text report
answer_text (Went (Err fault)) = refused (codes "go") fault
answer_text (Looked (Ok (station, over))) = look_text station over
answer_text (Looked (Err fault)) = refused (codes "look") fault
answer_text (Struck (Ok letters)) = codes "strike " ++ (decimal letters ++ codes " letters\n")
answer_text (Struck (Err fault)) = refused (codes "strike") fault
answer_text (Ports lines) = flat_map port_text lines
answer_text (NotUnderstood line) = codes "line " ++ (decimal line ++ codes ": not understood\n")

-- and the entries, where it has some
abbrev pub reply_text : Answer → List Entry → List ℕ
reply_text answer entries = answer_text answer ++ flat_map entry_text entries
