-- A run of calls in full: each call by computation, the letters one by one.
use Rattle.std.proofs.Common.{true, false, [], ◌∷◌, ◌++◌, replicate, Ok, Err, refl, lit<}
use Rattle.faults.specs.declared.causes.StageCause.TheVariants.{Over}
use Rattle.faults.specs.Numbers.{nowhere, stage_fault}
use Rattle.protocol.specs.Lists.{Each}
use Rattle.protocol.specs.Tables.{same_table}
use Rattle.protocol.proofs.Ranges.{listed_ranged}
use Rattle.device.specs.Meaning.{Lawful, moves}
use Rattle.device.specs.Ports.{Ports, here}
use Rattle.device.specs.Projector.{projected, projector_edges}
use Rattle.rules.specs.Script.{Script}
use Rattle.rules.specs.Check.{Passed}
use Rattle.rules.specs.Examples.{house_book, script_of}
use Rattle.machine.specs.declared.report.Reason.TheVariants.{Spent, Failed}
use Rattle.machine.specs.Dialogue.{Plays, ended, told}
use Rattle.machine.specs.Player.{Player, main, begun}
use Rattle.machine.specs.Exits.{fault_exit}
use Rattle.machine.specs.Going.{go_on}
use Rattle.machine.specs.Calls.{written}
use Rattle.machine.specs.Runs.{Scene, first_scene, begins, goes, looks, strikes, Run, started, called}
use Rattle.machine.specs.Examples.{blank_log, house_rig, fail_held, lamp_query, house_script}
use Rattle.machine.specs.Evening.{failed_entries, ready_entries, struck_entries, last_scene, Evening}

lawful : Each Lawful house_rig
lawful = (record { ranged = listed_ranged projector_edges refl; standing = lit< tt; counted = lit< tt }, tt)

abbrev failing : Script
failing = house_script (script_of fail_held)

abbrev asking : Script
asking = house_script (script_of lamp_query)

failing_passed : Passed failing
failing_passed = (house_book, script_of fail_held, refl, refl)

asking_passed : Passed asking
asking_passed = (house_book, script_of lamp_query, refl, refl)

-- Scenes

abbrev failed : Player
failed = record { over = true; script = failing; registers = replicate 8 0; stations = 0 ∷ []; frames = [] }

-- granted and led to station 2, with the query still to come
abbrev ready : Player
ready = record {
  over = false;
  script = asking;
  registers = replicate 8 0;
  stations = 2 ∷ [];
  frames = record { block = record { place = 36; bytes = lib.ListN.drop 8 (main asking).body.bytes }; ports = 0 ∷ replicate 7 255 } ∷ [];
}

abbrev scene : Player → Ports → Scene
scene p g = record { player = p; rig = g }

abbrev scene1 : Scene
scene1 = scene (begun failing) house_rig

abbrev scene2 : Scene
scene2 = scene failed (projected 0 4 1 0 ∷ [])

abbrev scene4 : Scene
scene4 = scene (begun asking) (projected 0 4 1 0 ∷ [])

abbrev scene5 : Scene
scene5 = scene ready (projected 2 6 2 0 ∷ [])

-- Letters

fails : Plays (go_on 10 0 0 (begun failing)) house_rig failed_entries (projected 0 4 1 0 ∷ []) (record { reason = Failed 7 36; steps = 3; own = 2 }, failed)
fails =
    told _ _ 0 _ _ _ _ _ _ (here (moves 0 1 refl)) (told _ _ 0 _ _ _ _ _ _ (here (moves 0 2 refl))
    (told _ _ 0 _ _ _ _ _ _ (here (moves 0 1 refl)) (told _ _ 0 _ _ _ _ _ _ (here (moves 0 0 refl)) (ended _ _))))

readies : Plays (go_on 2 0 0 (begun asking)) (projected 0 4 1 0 ∷ []) ready_entries (projected 2 6 2 0 ∷ []) (record { reason = Spent; steps = 2; own = 2 }, ready)
readies = told _ _ 0 _ _ _ _ _ _ (here (moves 0 1 refl)) (told _ _ 0 _ _ _ _ _ _ (here (moves 0 2 refl)) (ended _ _))

exits : Plays (fault_exit ready) (projected 2 6 2 0 ∷ []) struck_entries (projected 0 8 1 0 ∷ []) last_scene.player
exits = told _ _ 0 _ _ _ _ _ _ (here (moves 0 1 refl)) (told _ _ 0 _ _ _ _ _ _ (here (moves 0 0 refl)) (ended _ _))

-- Calls

run1 : Run (first_scene house_rig) [] scene1
unfolding same_table
run1 = called [] (first_scene house_rig) scene1 (begins failing (Ok 1)) started (failing_passed, (refl, refl), refl)

run2 : Run (first_scene house_rig) failed_entries scene2
unfolding same_table
run2 =
    called [] scene1 scene2
    (goes 10 (blank_log 130) (Ok (record { reason = Failed 7 36; steps = 3; letters = 4 })) 2 (written failed_entries (blank_log 130)))
    run1 (refl, (failed_entries, fails, refl, refl))

run3 : Run (first_scene house_rig) failed_entries scene2
run3 = called failed_entries scene2 scene2 (goes 10 (blank_log 130) (Err (stage_fault Over nowhere)) 0 (blank_log 130)) run2 (refl, refl, refl, refl)

run4 : Run (first_scene house_rig) failed_entries scene4
unfolding same_table
run4 = called failed_entries scene2 scene4 (begins asking (Ok 1)) run3 (asking_passed, (refl, refl), refl)

run5 : Run (first_scene house_rig) (failed_entries ++ ready_entries) scene5
unfolding same_table
run5 =
    called failed_entries scene4 scene5
    (goes 2 (blank_log 122) (Ok (record { reason = Spent; steps = 2; letters = 2 })) 2 (written ready_entries (blank_log 122)))
    run4 (refl, (ready_entries, readies, refl, refl))

run6 : Run (first_scene house_rig) (failed_entries ++ ready_entries) scene5
run6 = called (failed_entries ++ ready_entries) scene5 scene5 (looks 0 (Ok (2, false))) run5 ((refl, refl), refl)

run7 : Run (first_scene house_rig) (failed_entries ++ ready_entries ++ struck_entries) last_scene
unfolding same_table
run7 =
    called (failed_entries ++ ready_entries) scene5 last_scene (strikes (blank_log 120) (Ok 2) (written struck_entries (blank_log 120)))
    run6 (refl, (struck_entries, exits, refl, refl))

run8 : Run (first_scene house_rig) (failed_entries ++ ready_entries ++ struck_entries) last_scene
run8 = called (failed_entries ++ ready_entries ++ struck_entries) last_scene last_scene (looks 0 (Ok (0, true))) run7 ((refl, refl), refl)

pub evening_runs : Evening
unfolding run1 run2 run3 run4 run5 run6 run7 run8
evening_runs = record { lawful = lawful; away = (refl, tt); run = run8; calls = refl }
