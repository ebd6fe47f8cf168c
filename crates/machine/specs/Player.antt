-- The player: what it keeps of its script, its registers, its ports and its open blocks.
use Rattle.std.specs.Prelude.{ℕ, ◌-◌, Bool, true, false, List, [], ◌∷◌, ◌++◌, replicate, slice_index, slice_index_or, slice_set}
use Rattle.std.specs.Option.{unwrap_or}
use Rattle.protocol.specs.Tables.{Table, table_of}
use Rattle.book.specs.Kinds.{Kind, no_kind}
use Rattle.rules.specs.Lists.{from}
use Rattle.rules.specs.Script.{Block, Part, main_of, Script, empty_script}
use Rattle.machine.specs.Dialogue.{Dialogue, done, tells}

-- an open block: what is left of it, and the port of each of eight handles there, 255 beyond its own
pub record Frame : Type 0 where
  pub block : Block
  pub ports : List ℕ

-- over or begun; the open blocks, the topmost first
pub record Player : Type 0 where
  pub over : Bool
  pub script : Script
  pub registers : List ℕ
  pub stations : List ℕ
  pub frames : List Frame

-- over, without a port
abbrev pub new_player : Player
new_player = record { over = true; script = empty_script; registers = replicate 8 0; stations = []; frames = [] }

abbrev pub main : Script → Part
main s = main_of s.parts

-- at the start of main, whose handle h is port h, with every port away
abbrev pub begun : Script → Player
begun s = record {
  over = false;
  script = s;
  registers = replicate 8 0;
  stations = replicate (main s).handles 0;
  frames = record { block = (main s).body; ports = from 0 (main s).handles ++ replicate (8 - (main s).handles) 255 } ∷ [];
}

abbrev pub with_frames : Player → List Frame → Player
with_frames p fs = record { over = p.over; script = p.script; registers = p.registers; stations = p.stations; frames = fs }

abbrev pub with_register : Player → ℕ → ℕ → Player
with_register p r v = record { over = p.over; script = p.script; registers = slice_set p.registers r v; stations = p.stations; frames = p.frames }

abbrev pub with_station : Player → ℕ → ℕ → Player
with_station p i s = record { over = p.over; script = p.script; registers = p.registers; stations = slice_set p.stations i s; frames = p.frames }

abbrev pub finished : Player → Player
finished p = record { over = true; script = p.script; registers = p.registers; stations = p.stations; frames = [] }

-- Ports

-- the kind of a port, and its table
abbrev pub port_kind : Script → ℕ → Kind
port_kind s i = slice_index_or s.book (slice_index (main s).kinds i) no_kind

abbrev pub port_table : Script → ℕ → Table
port_table s i = table_of (port_kind s i).edges

-- the station that the player keeps for a port
abbrev pub kept : Player → ℕ → ℕ
kept p i = slice_index p.stations i

-- where the answer to a letter leads a port
abbrev pub led : Player → ℕ → ℕ → ℕ → ℕ
led p i l a = unwrap_or (port_table p.script i (kept p i) l a) 16

-- a letter to a port, with the answer and the player that keeps the new station
abbrev pub tell : Player → ℕ → ℕ → Dialogue (ℕ × Player)
tell p i l = tells i l (λ a. done (a, with_station p i (led p i l a)))
