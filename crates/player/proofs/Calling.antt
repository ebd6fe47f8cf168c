-- A begin that is accepted, and one that the rig refuses.
use Rattle.std.proofs.Common.{◌≡◌, true, eqb, length, Ok, Err, Result, refl, ap, ◌∙◌}
use Rattle.faults.specs.declared.fault.Fault.{Fault}
use Rattle.faults.specs.declared.causes.StageCause.TheVariants.{NotAway, OtherTable}
use Rattle.faults.specs.Results.{◌>>=◌}
use Rattle.faults.proofs.Results.{met}
use Rattle.protocol.proofs.Tests.{equal_numbers}
use Rattle.device.specs.Ports.{Ports}
use Rattle.rules.specs.Script.{Script}
use Rattle.machine.specs.Player.{Player, begun, main}
use Rattle.machine.specs.Calls.{begin, each_port, table_fits}
use Rattle.player.specs.Kept.{may_begin}

module _ (p : Player) (s : Script) (g : Ports) (over : p.over ≡ true) (count : (main s).handles ≡ length g) where
  abbrev Tried : Type 0
  Tried = Result (Unit {0}) Fault

  abbrev away : Tried
  away = each_port NotAway (λ i m. eqb m.station 0) 0 g

  at_once : (tables : Tried) → (tables >>= (λ _. away >>= (λ _. Ok (begun s)))) ≡ ((tables >>= (λ _. away)) >>= (λ _. Ok (begun s)))
  at_once (Ok t) = refl
  at_once (Err e) = refl

  by_rig : begin p s g ≡ (may_begin s g >>= (λ _. Ok (begun s)))
  by_rig = met p.over _ _ over ∙ met _ _ _ (equal_numbers count) ∙ at_once (each_port OtherTable (table_fits (begun s)) 0 g)

  pub begins : may_begin s g ≡ Ok tt → begin p s g ≡ Ok (begun s)
  begins e = by_rig ∙ ap (λ r. r >>= (λ _. Ok (begun s))) e

  pub refused : (e : Fault) → may_begin s g ≡ Err e → begin p s g ≡ Err e
  refused e h = by_rig ∙ ap (λ r. r >>= (λ _. Ok (begun s))) h
