use Rattle.rules.proofs.Decides.{decides}
use Rattle.script.proofs.script.Script.check.Goals as goal

pub returns-in_err-parts-clause-decides : goal.returns-in_err-parts-clause-decides
returns-in_err-parts-clause-decides c = decides

pub returns-clause-decides : goal.returns-clause-decides
returns-clause-decides c = decides
