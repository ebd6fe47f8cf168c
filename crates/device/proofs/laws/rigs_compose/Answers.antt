use Rattle.device.proofs.Composed.{compose}
use Rattle.device.proofs.laws.rigs_compose.Goals as goal

pub returns : goal.returns
returns c = compose
