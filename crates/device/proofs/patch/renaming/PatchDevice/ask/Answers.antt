use Rattle.std.proofs.Common.{sym, refl}
use Rattle.device.proofs.Renaming.{sends, stays, heard_below, not_heard}
use Rattle.device.proofs.patch.renaming.PatchDevice.ask.Goals as goal

pub returns-in-Some : goal.returns-in-Some
returns-in-Some g c = record {
  hears = rw (c.note.ensures.heard, c.note.ensures.letter, c.note.ensures.answer) (sends c.args.self.now.map c.args.self.now.tally.heard c.args.self.now.tally.letter c.args.self.now.tally.answer c.args.letter _
      (g.met.D.Device.lawful c.args.self.now.below) c.args.self.now.stuck c.in-Some.below _ _ (sym c.in-Some.ensures) c.ask-answer.ensures);
  map = refl;
  below = heard_below g.D.Device.meaning c.in-Some.ensures c.ask-answer.ensures;
}

pub returns-in-None : goal.returns-in-None
returns-in-None g c = record {
  hears = rw (c.note-in-None.ensures.heard, c.note-in-None.ensures.letter, c.note-in-None.ensures.answer) (stays c.args.self.now.map c.args.self.now.tally.heard c.args.self.now.tally.letter c.args.self.now.tally.answer c.args.letter _
      (g.met.D.Device.lawful c.args.self.now.below) c.args.self.now.stuck (sym c.in-None.ensures));
  map = refl;
  below = not_heard g.D.Device.meaning c.args.self.now.below 255 c.in-None.ensures;
}
