use Rattle.machine.proofs.examples_hold.Goals as goal
use Rattle.machine.proofs.Worked.{worked}

pub returns : goal.returns
returns c = worked
