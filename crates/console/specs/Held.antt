-- What the console holds between two lines.
use Rattle.std.specs.Prelude.{ℕ, List, [], ◌∷◌, Some, None, Ok, Err, Option, Result}
use Rattle.std.specs.Option.{option_map}
use Rattle.faults.specs.declared.fault.Fault.{Fault}
use Rattle.book.specs.Held.{bytes_of}
use Rattle.book.specs.Kinds.{Kind}
use Rattle.book.specs.Reading.{kinds_of, read_book}
use Rattle.rules.specs.Script.{Script, empty_script}
use Rattle.rules.specs.Check.{check_script}
use Rattle.script.specs.Held.{script_held}
use Rattle.device.specs.Built.{row_ports}
use Rattle.device.specs.Meaning.{Meaning}
use Rattle.device.specs.Ports.{Ports}
use Rattle.machine.specs.Player.{Player, new_player}
use Rattle.player.specs.View.{view}
use Rattle.console.specs.Plans.{Planned, replies_in}
use Rattle.console.specs.Ports.{rig_ports, rig_replies}
use Rattle.console.specs.declared.desk.Desk.{Desk}

-- the bytes of the book, the script, the player, and what the rig means, if there is one
pub record Held : Type 0 where
  pub book : List ℕ
  pub script : Script
  pub player : Player
  pub rig : Option Ports

abbrev pub held_of : Desk → Held
held_of d = record { book = bytes_of d.book; script = script_held d.script; player = view d.player; rig = option_map rig_ports d.rig }

-- No meaning has what a projector is still to answer: it is held beside the meanings.
abbrev pub replies_held : Desk → Option (List (List ℕ))
replies_held d = option_map rig_replies d.rig

abbrev pub nothing_held : Held
nothing_held = record { book = []; script = empty_script; player = new_player; rig = None }

-- after a book, by what it reads as; another book is held without a script
abbrev pub book_after : Held → List ℕ → Result (List Kind) Fault → Held
book_after held bs (Ok kinds) = record { book = bs; script = empty_script; player = held.player; rig = held.rig }
book_after held bs (Err fault) = held

-- what a script reads as, over the held book
abbrev pub script_read : Held → List ℕ → Result Script Fault
script_read held bs = check_script (kinds_of (read_book held.book)) bs

abbrev pub script_after : Held → Result Script Fault → Held
script_after held (Ok s) = record { book = held.book; script = s; player = held.player; rig = held.rig }
script_after held (Err fault) = held

-- the ports of a row of devices, if there is one
abbrev pub rig_from : Option Ports → List Meaning → Option Ports
rig_from held [] = held
rig_from held (m ∷ ms) = Some (row_ports (m ∷ ms))

abbrev pub rig_after : Held → Result (List Meaning) Fault → Held
rig_after held (Ok ms) = record { book = held.book; script = held.script; player = held.player; rig = rig_from held.rig ms }
rig_after held (Err fault) = held

-- the replies of the planned devices, where they take the rig's place
abbrev pub replies_after : Option (List (List ℕ)) → List Planned → Result (List Meaning) Fault → Option (List (List ℕ))
replies_after held plans (Ok []) = held
replies_after held plans (Ok (m ∷ ms)) = Some (replies_in plans)
replies_after held plans (Err fault) = held

-- after a call that leaves such a player
abbrev pub with_player : Held → Player → Held
with_player held p = record { book = held.book; script = held.script; player = p; rig = held.rig }

-- and such a rig
abbrev pub with_stage : Held → Player → Ports → Held
with_stage held p g = record { book = held.book; script = held.script; player = p; rig = Some g }
