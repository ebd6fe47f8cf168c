use Rattle.rules.proofs.examples_hold.Goals as goal
use Rattle.rules.proofs.Worked.{worked}

pub returns : goal.returns
returns c = worked
