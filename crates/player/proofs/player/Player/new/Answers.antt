use Rattle.machine.proofs.Kept.{keeps_protocols}
use Rattle.player.proofs.player.Player.new.Goals as goal

pub returns-clause-promise : goal.returns-clause-promise
returns-clause-promise c = keeps_protocols
