use Rattle.std.proofs.Common.{◌≡◌, map, take, drop, vec_items}
use Rattle.console.specs.Plans.{mounted, planned, replies_in}
use Rattle.console.proofs.Mounting.{behind}
use Rattle.console.proofs.plan.building.build_all.Given as goal

-- what is left decides, behind the devices so far; each of these has its replies
abbrev pub invariant-loop-plan : goal.invariant-loop-plan
invariant-loop-plan g l =
    (mounted (map planned l.plans) ≡ behind (map g.D.Device.meaning (vec_items l.devices)) (mounted (map planned (drop l.plan-index l.plans))))
    × (map g.D.Build.replies_under (vec_items l.devices) ≡ replies_in (map planned (take l.plan-index l.plans)))
