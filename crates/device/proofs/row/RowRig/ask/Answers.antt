use Rattle.std.proofs.Common.{◌<◌, sym, refl, vec_len, true≢false, arith}
use Rattle.device.proofs.Rows.{row_asks, row_asks_device, row_missing, row_refuses}
use Rattle.device.proofs.row.RowRig.ask.Goals as goal

pub returns-in-Some : goal.returns-in-Some
returns-in-Some g c =
    let devices = c.args.self.now.devices in
    let few : c.args.port < 8 = omega arith in
    let within : c.args.port < vec_len devices = c.in-Some.ensures.variant.0 refl in
    record {
      hears = row_asks g.D.Device.meaning devices c.args.port c.in-Some.device.now c.ask.new.self c.args.letter c.ask.result few within c.in-Some.ensures.value c.ask.ensures;
      asks = row_asks_device g.D.Device.meaning devices c.args.port c.in-Some.device.now c.ask.new.self c.args.letter c.ask.result few within c.in-Some.ensures.value c.ask.ensures;
    }

pub returns-in-None : goal.returns-in-None
returns-in-None g c =
    let devices = c.args.self.now.devices in
    let outside : c.args.port < 8 → c.args.port < vec_len devices → ⊥ = λ few within. true≢false (sym (c.in-None.ensures.variant.1 within)) in
    record {
      hears = row_missing g.D.Device.meaning devices c.args.port c.args.letter outside;
      asks = row_refuses g.D.Device.meaning devices c.args.port c.args.letter outside;
    }

pub returns-then-port-ge-PORTS : goal.returns-then-port-ge-PORTS
returns-then-port-ge-PORTS g c =
    let devices = c.args.self.now.devices in
    let outside : c.args.port < 8 → c.args.port < vec_len devices → ⊥ = λ few within. omega arith in
    record {
      hears = row_missing g.D.Device.meaning devices c.args.port c.args.letter outside;
      asks = row_refuses g.D.Device.meaning devices c.args.port c.args.letter outside;
    }
