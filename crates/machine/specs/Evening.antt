-- One run of calls in full, so that what is said of every run is said of something:
-- a script that fails half way, and another that is struck while the key is held.
use Rattle.std.specs.Prelude.{◌≡◌, true, false, List, [], ◌∷◌, ◌++◌, replicate, Ok, Err}
use Rattle.faults.specs.declared.causes.StageCause.TheVariants.{Over}
use Rattle.faults.specs.Numbers.{nowhere, stage_fault}
use Rattle.protocol.specs.declared.edges.Entry.{Entry}
use Rattle.protocol.specs.Lists.{Each}
use Rattle.device.specs.Meaning.{Lawful}
use Rattle.device.specs.Projector.{projected}
use Rattle.rules.specs.Examples.{script_of}
use Rattle.machine.specs.declared.report.Reason.TheVariants.{Spent, Failed}
use Rattle.machine.specs.Dialogue.{entry}
use Rattle.machine.specs.Calls.{written}
use Rattle.machine.specs.Runs.{Scene, first_scene, Call, begins, goes, looks, strikes, Run, calls_of}
use Rattle.machine.specs.Promise.{AllAway}
use Rattle.machine.specs.Examples.{blank_log, house_rig, fail_held, lamp_query, house_script}

-- granted, led on, and after the FAIL led back and returned
abbrev pub failed_entries : List Entry
failed_entries = entry 0 0 0 1 ∷ entry 0 2 0 2 ∷ entry 0 6 0 1 ∷ entry 0 1 0 0 ∷ []

abbrev pub ready_entries : List Entry
ready_entries = entry 0 0 0 1 ∷ entry 0 2 0 2 ∷ []

abbrev pub struck_entries : List Entry
struck_entries = entry 0 6 0 1 ∷ entry 0 1 0 0 ∷ []

-- begin, a go that fails, one that is refused, a second begin, a go of two steps, and a strike between two looks
abbrev pub evening : List Call
evening =
    begins (house_script (script_of fail_held)) (Ok 1)
    ∷ goes 10 (blank_log 130) (Ok (record { reason = Failed 7 36; steps = 3; letters = 4 })) 2 (written failed_entries (blank_log 130))
    ∷ goes 10 (blank_log 130) (Err (stage_fault Over nowhere)) 0 (blank_log 130)
    ∷ begins (house_script (script_of lamp_query)) (Ok 1)
    ∷ goes 2 (blank_log 122) (Ok (record { reason = Spent; steps = 2; letters = 2 })) 2 (written ready_entries (blank_log 122))
    ∷ looks 0 (Ok (2, false))
    ∷ strikes (blank_log 120) (Ok 2) (written struck_entries (blank_log 120))
    ∷ looks 0 (Ok (0, true))
    ∷ []

-- over, with the projector away after eight letters
abbrev pub last_scene : Scene
last_scene = record {
  player = record { over = true; script = house_script (script_of lamp_query); registers = replicate 8 0; stations = 0 ∷ []; frames = [] };
  rig = projected 0 8 1 0 ∷ [];
}

pub record Evening : Type 0 where
  pub lawful : Each Lawful house_rig
  pub away : AllAway house_rig
  pub run : Run (first_scene house_rig) (failed_entries ++ ready_entries ++ struck_entries) last_scene
  pub calls : calls_of run ≡ evening
