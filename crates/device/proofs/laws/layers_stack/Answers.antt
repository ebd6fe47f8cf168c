use Rattle.device.proofs.Stacking.{stack}
use Rattle.device.proofs.laws.layers_stack.Goals as goal

pub returns : goal.returns
returns c = stack
