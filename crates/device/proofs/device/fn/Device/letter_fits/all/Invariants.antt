use Rattle.std.proofs.Common.{◌≡◌}
use Rattle.protocol.specs.Slots.{table_in}
use Rattle.protocol.specs.Tables.{same_answers}
use Rattle.device.proofs.device.fn.Device.letter_fits.all.Given as goal

abbrev pub ensures : goal.ensures
ensures g l r = r ≡ same_answers (g.Self-Device.meaning l.self.entry.now).table l.letter (table_in l.table.entry.now) l.named l.station
