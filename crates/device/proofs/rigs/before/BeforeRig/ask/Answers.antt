use Rattle.std.proofs.Common.{◌∷◌}
use Rattle.device.proofs.Asking.{asks_first, asks_rest, asks_none, before_asks_first, before_asks_rest, before_refuses}
use Rattle.device.proofs.rigs.before.BeforeRig.ask.Goals as goal

pub returns-in-Some-First : goal.returns-in-Some-First
returns-in-Some-First g c =
    let rig = c.args.self.now in
    let part = rw c.in-Some-First.field-0-is at c.in-Some-First.ensures in
    record {
      hears = asks_first c.args.port part c.ask.ensures;
      asks = before_asks_first g.D.Device.meaning g.R.Rig.asks rig c.ask.new.self c.args.port c.args.letter c.ask.result part c.ask.ensures;
    }

pub returns-in-Some-Rest : goal.returns-in-Some-Rest
returns-in-Some-Rest g c =
    let rig = c.args.self.now in
    let part = rw c.in-Some-Rest.field-0-is at c.in-Some-Rest.ensures in
    let asked = c.ask-in-Some-Rest in
    record {
      hears = asks_rest c.args.port c.in-Some-Rest.port part asked.ensures.hears;
      asks = before_asks_rest g.D.Device.meaning g.R.Rig.asks rig asked.new.self c.args.port c.in-Some-Rest.port c.args.letter asked.result part asked.ensures.asks;
    }

pub returns-in-None : goal.returns-in-None
returns-in-None g c =
    let rig = c.args.self.now in
    record {
      hears = asks_none (g.D.Device.meaning rig.first ∷ g.R.Rig.ports rig.rest) c.args.port c.args.letter c.in-None.ensures;
      asks = before_refuses g.D.Device.meaning g.R.Rig.asks rig c.args.port c.args.letter c.in-None.ensures;
    }
