-- Each refusal of begin, go, look and strike, by number and place.
use Rattle.std.specs.Prelude.{◌≡◌, [], ◌∷◌, ◌++◌, None, Err}
use Rattle.faults.specs.Numbers.{nowhere}
use Rattle.device.specs.Meaning.{Meaning}
use Rattle.device.specs.Projector.{projected}
use Rattle.rules.specs.Script.{Script, empty_script}
use Rattle.rules.specs.Examples.{double, script_of, grant_both, return_both}
use Rattle.machine.specs.Player.{Player, new_player, begun}
use Rattle.machine.specs.Calls.{begin, may_go, may_strike, look}
use Rattle.machine.specs.Examples.{blank_log, projectors, house_rig, numbered, grant_return, house_script}

abbrev pub one_port : Script
one_port = house_script (script_of grant_return)

abbrev pub two_ports : Script
two_ports = house_script (double 0 0 (grant_both ++ return_both))

-- begun on one projector
abbrev pub beginner : Player
beginner = begun one_port

-- a device that declares nothing
abbrev pub mute : Meaning
mute = record { table = λ s l a. None; station = 0; heard = 0; letter = 0; answer = 0; memory = []; rule = λ m l a. [] }

pub record Refusals : Type 0 where
  -- begin: the player is not over, the counts of ports differ, a table is not its kind's, a port is not away
  pub not_over : numbered (begin beginner one_port house_rig) ≡ Err (23, nowhere)
  pub other_count : numbered (begin new_player one_port (projectors 2)) ≡ Err (24, nowhere)
  pub no_script : numbered (begin new_player empty_script house_rig) ≡ Err (24, nowhere)
  pub other_table : numbered (begin new_player two_ports (projected 0 0 0 0 ∷ mute ∷ [])) ≡ Err (25, 1)
  pub not_away : numbered (begin new_player two_ports (projected 0 0 0 0 ∷ projected 1 1 0 0 ∷ [])) ≡ Err (26, 1)
  -- go and strike: the player is over, the budget is not 1 to 1,000, the log is short, the rig is not as it was left
  pub over_go : numbered (may_go new_player 10 house_rig (blank_log 130)) ≡ Err (27, nowhere)
  pub over_strike : numbered (may_strike new_player house_rig (blank_log 120)) ≡ Err (27, nowhere)
  pub no_budget : numbered (may_go beginner 0 house_rig (blank_log 130)) ≡ Err (28, nowhere)
  pub large_budget : numbered (may_go beginner 1001 house_rig (blank_log 130)) ≡ Err (28, nowhere)
  pub short_log : numbered (may_go beginner 10 house_rig (blank_log 129)) ≡ Err (29, nowhere)
  pub short_strike : numbered (may_strike beginner house_rig (blank_log 119)) ≡ Err (29, nowhere)
  pub other_ports : numbered (may_go beginner 10 (projectors 2) (blank_log 130)) ≡ Err (30, nowhere)
  pub moved_on : numbered (may_strike beginner (projected 1 1 0 0 ∷ []) (blank_log 120)) ≡ Err (30, 0)
  -- look: there is no such port
  pub no_port : numbered (look new_player 0) ≡ Err (31, 0)
  pub past_ports : numbered (look beginner 1) ≡ Err (31, 1)
