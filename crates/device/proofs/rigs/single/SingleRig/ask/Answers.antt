use Rattle.std.proofs.Common.{arith}
use Rattle.device.specs.Built.{single_ports}
use Rattle.device.proofs.Asking.{asks_first, single_asks, single_refuses}
use Rattle.device.proofs.Numbered.{past_ports}
use Rattle.device.proofs.rigs.single.SingleRig.ask.Goals as goal

pub returns-in-0 : goal.returns-in-0
returns-in-0 g c = record {
  hears = asks_first c.args.port c.in-0.is c.ask.ensures;
  asks = single_asks g.D.Device.meaning c.args.self.now.device c.ask.new.self c.args.port c.args.letter c.ask.result c.in-0.is c.ask.ensures;
}

pub returns-in_default : goal.returns-in_default
returns-in_default g c = record {
  hears = past_ports (single_ports (g.D.Device.meaning c.args.self.now.device)) c.args.port c.args.letter (omega arith);
  asks = single_refuses g.D.Device.meaning c.args.self.now.device c.args.port c.args.letter (omega arith);
}
