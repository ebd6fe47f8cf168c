use Rattle.device.proofs.Projecting.{projector_hears}
use Rattle.device.proofs.projector.asked.ProjectorDevice.ask.Goals as goal

pub returns : goal.returns
returns c = record {
  hears = rw (c.note.ensures.heard, c.note.ensures.letter, c.note.ensures.answer) (projector_hears c.args.self.now _ c.args.letter _ _ c.answer_to-answer.ensures.same c.answer_to-answer.ensures.answer c.arrival-self.ensures.value);
  answer = c.answer_to-answer.ensures.answer;
  left = c.answer_to-answer.ensures.left;
}
