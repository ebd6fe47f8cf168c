-- Every run of calls keeps the protocols of its ports.
use Rattle.std.proofs.Common.{◌≡◌, ◌<◌, ◌≤◌, List, [], length, sym, refl, ap, ◌∙◌, subst, inl, arith}
use Rattle.protocol.specs.declared.edges.Entry.{Entry}
use Rattle.protocol.specs.Lists.{Each}
use Rattle.device.specs.Meaning.{Meaning, Lawful}
use Rattle.device.specs.Ports.{Ports}
use Rattle.machine.specs.Player.{new_player}
use Rattle.machine.specs.Runs.{Scene, first_scene, Run, started, called}
use Rattle.machine.specs.Promise.{PortKept, AllAway, RunsKeepProtocols}
use Rattle.machine.proofs.Entries.{Followed, port_kept}
use Rattle.machine.proofs.Ports.{at_map, at_both, at_same, PortSo}
use Rattle.machine.proofs.Going.{SceneSo}
use Rattle.machine.proofs.Calling.{resting_of, ports_of, within_of, call_keeps}

at_first : (m : Meaning) → Lawful m → m.station ≡ 0 → Followed m m []
at_first m ok z = record {
  not_jammed = omega (arith, z);
  heard = record { table = refl; rule = refl; heard = omega (arith, ok.counted); letter = refl; answer = refl; memory = refl };
  legal = sym z;
}

starts : (g : Ports) → Each Lawful g → AllAway g → SceneSo g [] new_player g
starts g ok away = inl (record {
  over = refl;
  within = tt;
  ports = at_both (λ i m m'. (m ≡ m') × Lawful m) (PortSo []) (λ m. m.station ≡ 0) g g
      (λ i m m' w z. record { followed = subst (λ (v : Meaning). Followed m v []) w.0 (at_first m w.1 (ap (λ (v : Meaning). v.station) w.0 ∙ z)); ranged = w.1.ranged })
      (at_same (λ i m m'. (m ≡ m') × Lawful m) Lawful g (λ i m l. (refl, l)) ok) away;
  home = away;
})

pub run_so : (g : Ports) → 0 < length g → length g ≤ 8 → Each Lawful g → AllAway g → {js : List Entry} {x : Scene} → Run (first_scene g) js x → SceneSo g js x.player x.rig
run_so g pos eight ok away started = starts g ok away
run_so g pos eight ok away (called js x y c r d) = (call_keeps g pos eight js x y c (run_so g pos eight ok away r) d).1

pub keeps_protocols : RunsKeepProtocols
keeps_protocols g ok away pos eight js x r =
    let sc : SceneSo g js x.player x.rig = run_so g pos eight ok away r in
    record {
      ports = at_map (PortSo js) (PortKept js) g x.rig (λ i m m' so. port_kept js i m m' so.followed) (ports_of g js x.player x.rig sc);
      within = within_of g js x.player x.rig sc;
      home = λ e. (resting_of g js x.player x.rig sc e).home;
      next = λ c y d. (call_keeps g pos eight js x y c sc d).0;
    }
