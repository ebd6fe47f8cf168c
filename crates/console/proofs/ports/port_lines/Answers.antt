use Rattle.std.proofs.Common.{◌<◌, length, ap, ◌∙◌, arith, lit<}
use Rattle.std.proofs.lemmas.List.FromFn.{length-map-range_with_len, map-range_with_len_more}
use Rattle.console.specs.Ports.{port_line}
use Rattle.console.proofs.ports.port_lines.Goals as goal

pub push-requires : goal.push-requires
push-requires g c =
    let long = ap length c.loop-port.invariant ∙ length-map-range_with_len (port_line (g.R.Rig.ports c.args.rig.now)) 0 c.loop-port.port in
    let few = g.met.R.Rig.few c.args.rig.now in
    let room : length c.loop-port.lines.items < 8 = omega (arith, long, few) in
    (lit< tt, room)

pub loop-port-preserved : goal.loop-port-preserved
loop-port-preserved g c =
    let more = map-range_with_len_more (port_line (g.R.Rig.ports c.args.rig.now)) 0 c.loop-port.port c.loop-port.port (omega arith) in
    cc
