-- Worked examples: scripts over the house's projector book, checked, begun on projectors, and gone through by given answers.
use Rattle.std.specs.Prelude.{◌≡◌, ℕ, ◌+◌, Bool, true, List, [], ◌∷◌, ◌++◌, length, replicate, Some, None, Ok, Err, Option, Result}
use Rattle.faults.specs.declared.fault.Fault.{Fault}
use Rattle.faults.specs.Numbers.{number_of}
use Rattle.faults.specs.Results.{◌>>=◌}
use Rattle.protocol.specs.declared.edges.Entry.{Entry}
use Rattle.book.specs.Lawful.{kinds_bytes}
use Rattle.book.specs.Reading.{read_book, kinds_of}
use Rattle.device.specs.Ports.{Ports}
use Rattle.device.specs.Projector.{projected}
use Rattle.rules.specs.Script.{Script, empty_script}
use Rattle.rules.specs.Check.{check_script}
use Rattle.rules.specs.Examples.{house_book, projector, double, script_of, say, asked, again, run_with, ready, both_ways, grant_both, return_both}
use Rattle.machine.specs.declared.report.Reason.{Reason}
use Rattle.machine.specs.declared.report.Reason.TheVariants.{End, Spent, Cue, Failed}
use Rattle.machine.specs.declared.report.Report.{Report}
use Rattle.machine.specs.Dialogue.{entry, Played, play}
use Rattle.machine.specs.Player.{Player, new_player}
use Rattle.machine.specs.Exits.{fault_exit}
use Rattle.machine.specs.Going.{Stop, go_on}
use Rattle.machine.specs.Calls.{Log, begin, may_go, look}

abbrev pub blank_log : ℕ → Log
blank_log n = replicate n (entry 0 0 0 0)

-- so many simulated projectors, as they are at first
abbrev pub projectors : ℕ → Ports
projectors n = replicate n (projected 0 0 0 0)

abbrev pub house_rig : Ports
house_rig = projectors 1

-- what a go answers, and its entries
abbrev pub report : Played (Stop × Player) → Report × List Entry
report r = (record { reason = r.value.0.reason; steps = r.value.0.steps; letters = length r.entries }, r.entries)

-- a refusal by its number and place
abbrev pub numbered : {X : Type 0} → Result X Fault → Result X (ℕ × ℕ)
numbered (Ok x) = Ok x
numbered (Err e) = Err (number_of e.cause, e.place)

-- the script over the book is checked, begun on so many projectors, and goes by the answers
abbrev pub trial_over : List ℕ → List ℕ → ℕ → ℕ → List ℕ → Result (Option (Report × List Entry)) (ℕ × ℕ)
trial_over book bytes ports n answers = numbered (do
  kinds ← read_book book
  script ← check_script kinds bytes
  player ← begin new_player script (projectors ports)
  _ ← may_go player n (projectors ports) (blank_log (n + 120))
  Ok (elim (play (go_on n 0 0 player) (projectors ports) answers) [ None ↦ None | Some r ↦ Some (report r) ]))

-- the body of one part, on one projector
abbrev pub trial : List ℕ → ℕ → List ℕ → Result (Option (Report × List Entry)) (ℕ × ℕ)
trial body n answers = trial_over house_book (script_of body) 1 n answers

-- after the go a strike, with its entries, and what a look at port 0 says then
abbrev pub trial_struck : List ℕ → ℕ → List ℕ → List ℕ → Result (Option (List Entry × Result (ℕ × Bool) Fault)) (ℕ × ℕ)
trial_struck body n answers later = numbered (do
  kinds ← read_book house_book
  script ← check_script kinds (script_of body)
  player ← begin new_player script house_rig
  Ok (elim (play (go_on n 0 0 player) house_rig answers) [
    | None ↦ None
    | Some r ↦ elim (play (fault_exit r.value.1) r.rig later) [ None ↦ None | Some q ↦ Some (q.entries, look q.value 0) ]
  ]))

abbrev pub answers_with : Reason → ℕ → List Entry → Result (Option (Report × List Entry)) (ℕ × ℕ)
answers_with r steps es = Ok (Some (record { reason = r; steps = steps; letters = length es }, es))

-- Bodies

abbrev pub grant_return : List ℕ
grant_return = say 0 0 ++ say 0 1

-- a lamp query: two of its three answers leave something to do
abbrev pub lamp_query : List ℕ
lamp_query = ready ++ asked 3 4 4 ++ say 0 6 ++ say 0 6 ++ say 0 1

abbrev pub half_query : List ℕ
half_query = ready ++ asked 3 4 0 ++ say 0 6 ++ say 0 1

-- FAIL 7 while the key is held
abbrev pub fail_held : List ℕ
fail_held = ready ++ (0x28 ∷ 7 ∷ []) ++ say 0 6 ++ say 0 1

-- register 0 is set to 2, and counted down
abbrev pub countdown : List ℕ
countdown = (0x25 ∷ 0 ∷ 2 ∷ []) ++ again (0x26 ∷ 0 ∷ [])

-- CUE 0x1234, and then there and back
abbrev pub cue_first : List ℕ
cue_first = (0x27 ∷ 0x34 ∷ 0x12 ∷ []) ++ grant_return

-- both handles are granted, a part with the handles crossed leads them on and back, and both are returned
abbrev pub crossed_run : List ℕ
crossed_run = both_ways ++ double 0 0 (grant_both ++ run_with 0 1 0 ++ return_both)

-- the script of a check that passes
abbrev pub passed_or_empty : Result Script Fault → Script
passed_or_empty (Ok s) = s
passed_or_empty (Err e) = empty_script

-- over the house's book
abbrev pub house_script : List ℕ → Script
house_script bytes = passed_or_empty (check_script (kinds_of (read_book house_book)) bytes)

pub record Examples : Type 0 where
  pub there_and_back : trial grant_return 10 (0 ∷ 0 ∷ []) ≡ answers_with End 2 (entry 0 0 0 1 ∷ entry 0 1 0 0 ∷ [])
  pub third_answer : trial lamp_query 10 (0 ∷ 0 ∷ 2 ∷ 0 ∷ []) ≡ answers_with End 4 (entry 0 0 0 1 ∷ entry 0 2 0 2 ∷ entry 0 3 2 1 ∷ entry 0 1 0 0 ∷ [])
  pub fails_held : trial fail_held 10 (0 ∷ 0 ∷ 0 ∷ 0 ∷ [])
      ≡ answers_with (Failed 7 36) 3 (entry 0 0 0 1 ∷ entry 0 2 0 2 ∷ entry 0 6 0 1 ∷ entry 0 1 0 0 ∷ [])
  pub counts_down : trial countdown 10 [] ≡ answers_with End 6 []
  pub short_budget : trial countdown 5 [] ≡ answers_with Spent 5 []
  pub just_enough : trial grant_return 2 (0 ∷ 0 ∷ []) ≡ answers_with End 2 (entry 0 0 0 1 ∷ entry 0 1 0 0 ∷ [])
  pub cued : trial cue_first 10 [] ≡ answers_with (Cue 0x1234) 1 []
  pub crossed : trial_over house_book crossed_run 2 100 (replicate 8 0)
      ≡ answers_with End 9 (entry 0 0 0 1 ∷ entry 1 0 0 1 ∷ entry 1 2 0 2 ∷ entry 0 2 0 2 ∷ entry 1 6 0 1 ∷ entry 0 6 0 1 ∷ entry 0 1 0 0 ∷ entry 1 1 0 0 ∷ [])
  pub struck_held : trial_struck lamp_query 2 (0 ∷ 0 ∷ []) (0 ∷ 0 ∷ []) ≡ Ok (Some (entry 0 6 0 1 ∷ entry 0 1 0 0 ∷ [], Ok (0, true)))
  -- these do not come to play
  pub not_returned : trial (say 0 0) 10 [] ≡ Err (21, 0)
  pub unsure : trial (ready ++ say 0 3) 10 [] ≡ Err (15, 36)
  pub empty_block : trial half_query 10 [] ≡ Err (17, 36)
  pub rank_stays : trial_over (kinds_bytes 0 (projector 3 ∷ [])) (script_of grant_return) 1 10 [] ≡ Err (7, 56)
