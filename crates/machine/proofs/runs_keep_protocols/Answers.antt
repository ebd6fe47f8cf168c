use Rattle.machine.proofs.runs_keep_protocols.Goals as goal
use Rattle.machine.proofs.Kept.{keeps_protocols}

pub returns : goal.returns
returns c = keeps_protocols
