use Rattle.std.proofs.Common.{sym}
use Rattle.script.proofs.Held.{main_found}
use Rattle.script.proofs.script.Script.main_part.Goals as goal

pub returns : goal.returns
returns c = main_found c.args.self.now c.last.result (rw (sym c.held.ensures) c.last.ensures.value)
