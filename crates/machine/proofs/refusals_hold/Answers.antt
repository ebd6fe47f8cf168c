use Rattle.machine.proofs.refusals_hold.Goals as goal
use Rattle.machine.proofs.Worked.{refused}

pub returns : goal.returns
returns c = refused
