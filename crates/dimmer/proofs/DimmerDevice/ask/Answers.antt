use Rattle.std.proofs.Common.{sym}
use Rattle.device.specs.Meaning.{moves, jams}
use Rattle.dimmer.proofs.Replying.{not_allowed, refused, replied}
use Rattle.dimmer.proofs.DimmerDevice.ask.Goals as goal

pub returns-in-Some : goal.returns-in-Some
returns-in-Some c =
    let lamp = c.args.self.now in
    let w = c.note.ensures in
    record {
      hears = rw (c.level_after-self.ensures, w.heard, w.letter, w.answer) (moves c.reply-answer.result c.in-Some.station (sym c.in-Some.ensures));
      answer = replied lamp.station lamp.level c.args.letter c.reply-answer.result c.in-Some.station c.reply-answer.ensures c.in-Some.ensures;
    }

pub returns-in-None : goal.returns-in-None
returns-in-None c =
    let lamp = c.args.self.now in
    let w = c.note-in-None.ensures in
    record {
      hears = rw (w.heard, w.letter, w.answer) (jams (not_allowed lamp.station lamp.level c.args.letter c.reply-answer.result c.reply-answer.ensures c.in-None.ensures));
      answer = refused lamp.station lamp.level c.args.letter c.reply-answer.result c.reply-answer.ensures c.in-None.ensures;
    }
