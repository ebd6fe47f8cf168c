-- The console's rig: what it means, and what it shows.
use Rattle.std.specs.Prelude.{ℕ, List, Option, length, map, slice_get, vec_items}
use Rattle.std.specs.List.{range_with_len}
use Rattle.device.specs.declared.projector.Projector.{Projector}
use Rattle.device.specs.declared.row.Row.{Row}
use Rattle.device.specs.Built.{row_ports}
use Rattle.device.specs.Meaning.{Meaning}
use Rattle.device.specs.Ports.{Ports, heard_at, station_at}
use Rattle.device.specs.Projector.{projector_meaning, replies_of}
use Rattle.console.specs.declared.layered.Layered.{Layered}
use Rattle.console.specs.declared.ports.PortLine.{PortLine}
use Rattle.console.specs.Layers.{layered_meaning, layered_replies}

abbrev pub Nest : Type 0
Nest = Layered (Layered (Layered (Layered (Layered (Layered (Layered (Layered Projector)))))))

abbrev pub nest_meaning : Nest → Meaning
nest_meaning =
    layered_meaning (layered_meaning (layered_meaning (layered_meaning
    (layered_meaning (layered_meaning (layered_meaning (layered_meaning projector_meaning)))))))

abbrev pub rig_ports : Row Nest → Ports
rig_ports rig = row_ports (map nest_meaning (vec_items rig.devices))

abbrev pub nest_replies : Nest → List ℕ
nest_replies =
    layered_replies (layered_replies (layered_replies (layered_replies
    (layered_replies (layered_replies (layered_replies (layered_replies replies_of)))))))

-- what each device's projector will answer to the lamp query
abbrev pub rig_replies : Row Nest → List (List ℕ)
rig_replies rig = map nest_replies (vec_items rig.devices)

-- what a port shows
abbrev pub port_line : Ports → ℕ → PortLine
port_line g p = record { port = p; station = station_at g p; heard = heard_at g p }

abbrev pub port_lines : Ports → List PortLine
port_lines g = map (port_line g) (range_with_len 0 (length g))

-- for each of eight ports its line, if there is one
abbrev pub by_port : List PortLine → List (Option PortLine)
by_port lines = map (slice_get lines) (range_with_len 0 8)
