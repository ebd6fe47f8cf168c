use Rattle.std.proofs.Common.{◌<◌, Bool, length, Err, sym, ap, ◌∙◌, rules}
use Rattle.faults.specs.declared.fault.Fault.{Fault}
use Rattle.faults.specs.declared.causes.KeyCause.TheVariants.{MainHeld}
use Rattle.faults.specs.Numbers.{key_fault}
use Rattle.faults.specs.Results.{need}
use Rattle.script.proofs.Mains.{main_last}
use Rattle.script.proofs.reader.check_main.Goals as goal

pub returns-then-not-is_away : goal.returns-then-not-is_away
returns-then-not-is_away c =
    let p = c.main-item.result in
    let some : 0 < length c.args.parts.now = search rules in
    ap (λ (e : Fault). Err e) c.at.ensures
    ∙ ap (λ (b : Bool). need b (key_fault MainHeld p.place)) c.if-not-is_away.ensures
    ∙ sym (main_last c.args.parts.now p some c.main-item.is)

pub returns : goal.returns
returns c =
    let p = c.main-item.result in
    let some : 0 < length c.args.parts.now = search rules in
    ap (λ (b : Bool). need b (key_fault MainHeld p.place)) c.if-not-is_away.ensures
    ∙ sym (main_last c.args.parts.now p some c.main-item.is)
