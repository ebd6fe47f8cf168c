use Rattle.std.proofs.Common.{nat_eq, ap, ◌∙◌}
use Rattle.protocol.specs.Slots.{table_in}
use Rattle.device.proofs.Renaming.{fits_below, fits_none}
use Rattle.device.proofs.patch.renaming.PatchDevice.letter_fits.Goals as goal

pub returns-in-Some : goal.returns-in-Some
returns-in-Some g c =
    c.letter_fits.ensures ∙ fits_below c.args.self.now.map (g.D.Device.meaning c.args.self.now.below).table c.args.letter (table_in c.args.table.now) c.args.named c.in-Some.below c.in-Some.ensures.below

pub returns-in-None : goal.returns-in-None
returns-in-None g c =
    ap (λ n. nat_eq n 0) c.edge_count.ensures
    ∙ fits_none c.args.self.now.map (g.D.Device.meaning c.args.self.now.below).table c.args.letter (table_in c.args.table.now) c.args.named c.in-None.ensures.below
