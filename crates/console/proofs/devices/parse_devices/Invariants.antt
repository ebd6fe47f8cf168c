use Rattle.std.proofs.Common.{◌≡◌, map, drop, vec_items}
use Rattle.console.specs.Devices.{all_some, device_of}
use Rattle.console.specs.Plans.{planned}
use Rattle.console.proofs.Somes.{behind}
use Rattle.console.proofs.devices.parse_devices.Given as goal

-- what is left decides, behind the devices so far
abbrev pub invariant-loop-word : goal.invariant-loop-word
invariant-loop-word l =
    all_some (map device_of (map (λ word. word.now) l.word-items)) ≡ behind (map planned (vec_items l.plans)) (all_some (map device_of (map (λ word. word.now) (drop l.word-index l.word-items))))
