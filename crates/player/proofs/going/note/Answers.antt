use Rattle.std.proofs.Common.{take, drop, ◌++◌, option_to_list, sym, ap, ◌∙◌}
use Rattle.machine.specs.Calls.{written}
use Rattle.player.proofs.Coming.{written_at}
use Rattle.player.proofs.going.note.Goals as goal

pub returns-in-Some-clause-noted : goal.returns-in-Some-clause-noted
returns-in-Some-clause-noted c =
    let log = c.args.log.now in
    let k = c.args.letters in
    sym (written_at log k c.in-Some.entry c.requires) ∙ ap (λ o. take k log ++ written (option_to_list o) (drop k log)) (sym c.in-Some.is)
