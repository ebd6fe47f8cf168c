use Rattle.protocol.proofs.Balance.{balance}
use Rattle.protocol.proofs.paths_balance.Goals as goal

pub returns : goal.returns
returns c = balance
