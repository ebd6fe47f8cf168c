use Rattle.std.proofs.Common.{◌≡◌}
use Rattle.protocol.specs.Slots.{table_in}
use Rattle.protocol.specs.Tables.{same_letter}
use Rattle.device.specs.Ports.{edge_at}
use Rattle.device.proofs.rig.fn.Rig.has_table.all.Given as goal

abbrev pub ensures : goal.ensures
ensures g l r = r ≡ same_letter (edge_at (g.Self-Rig.ports l.self.entry.now) l.port) l.letter (table_in l.table.entry.now) l.letter
