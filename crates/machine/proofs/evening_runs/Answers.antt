use Rattle.machine.proofs.evening_runs.Goals as goal
use Rattle.machine.proofs.Evening.{evening_runs}

pub returns : goal.returns
returns c = evening_runs
