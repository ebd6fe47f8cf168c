use Rattle.machine.proofs.answers_settle.Goals as goal
use Rattle.machine.proofs.Answered.{settles}

pub returns : goal.returns
returns c = settles
