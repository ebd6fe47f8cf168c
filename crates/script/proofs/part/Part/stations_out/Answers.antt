use Rattle.std.proofs.Common.{◌≡◌, ◌<◌, length, rules, sym, ◌∙◌, arith}
use Rattle.script.specs.declared.part.Handle.{Handle}
use Rattle.script.specs.Parts.{no_handle}
use Rattle.script.proofs.Mapped.{mapped}
use Rattle.script.proofs.part.Part.stations_out.Goals as goal

pub returns : goal.returns
returns c =
    let w = c.map.ensures.items in
    let eight : length c.args.self.now.handles ≡ 8 = search rules in
    mapped (λ (h : Handle). h.leaves) no_handle c.args.self.now.handles c.map.result 0 (w.long ∙ sym eight) (λ i lt. let few : i < 8 = omega (arith, eight, lt) in let v = w.at i no_handle 0 few in search rules)
