use Rattle.std.proofs.Common.{◌≡◌, ℕ, ◌<◌, length, map, get_or, rules, sym, ◌∙◌, arith}
use Rattle.std.proofs.lemmas.List.{ext_get_or, get_or-map, length-map}
use Rattle.player.proofs.ports.handed.Goals as goal

pub returns : goal.returns
returns c =
    let w = c.map.ensures.items in
    let bound : ℕ → ℕ = λ b. get_or c.args.ports.now b 255 in
    let count : length c.args.bindings.now ≡ 8 = search rules in
    let long : length c.map.result ≡ 8 = w.long in
    ext_get_or 0 c.map.result (map bound c.args.bindings.now) (long ∙ sym count ∙ sym (length-map c.args.bindings.now bound)) (λ i lt.
    let few : i < 8 = omega (arith, long, lt) in
    let v = w.at i 0 0 few in
    let here : get_or c.map.result i 0 ≡ get_or c.args.ports.now (get_or c.args.bindings.now i 0) 255 = search rules in
    here ∙ sym (get_or-map bound c.args.bindings.now i 0 0 (omega (arith, few, count))))
