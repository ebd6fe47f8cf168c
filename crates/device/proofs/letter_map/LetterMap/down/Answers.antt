use Rattle.std.proofs.Common.{sym, ◌∙◌, None}
use Rattle.device.proofs.Lettering.{small}
use Rattle.device.proofs.letter_map.LetterMap.down.Goals as goal

pub returns-clause-known : goal.returns-clause-known
returns-clause-known c = let w = c.in_ok-get.ensures.lookup in small _ (λ l e. c.args.self.now.known c.args.letter l (sym (w.3.1 None) ∙ e))
