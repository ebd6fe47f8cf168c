use Rattle.rules.proofs.check_decides.Goals as goal
use Rattle.rules.proofs.Decides.{decides}

pub returns : goal.returns
returns c = decides
