-- What a script needs of a rig.
use Rattle.std.specs.Prelude.{Result, nat_eq}
use Rattle.faults.specs.declared.fault.Fault.{Fault}
use Rattle.faults.specs.declared.causes.StageCause.TheVariants.{OtherTable, NotAway}
use Rattle.faults.specs.Results.{◌>>=◌}
use Rattle.device.specs.Ports.{Ports}
use Rattle.rules.specs.Script.{Script}
use Rattle.machine.specs.Player.{begun}
use Rattle.machine.specs.Calls.{each_port, table_fits}

-- each port has the table of its kind, and each is away
abbrev pub may_begin : Script → Ports → Result (Unit {0}) Fault
may_begin s g = each_port OtherTable (table_fits (begun s)) 0 g >>= (λ _. each_port NotAway (λ i m. nat_eq m.station 0) 0 g)
