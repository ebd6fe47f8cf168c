use Rattle.std.proofs.Common.{◌≡◌, map}
use Rattle.std.specs.List.{range_with_len}
use Rattle.console.specs.Ports.{port_line}
use Rattle.console.proofs.ports.port_lines.Given as goal

abbrev pub invariant-loop-port : goal.invariant-loop-port
invariant-loop-port g l = l.lines.items ≡ map (port_line (g.R.Rig.ports l.rig)) (range_with_len 0 l.port)
