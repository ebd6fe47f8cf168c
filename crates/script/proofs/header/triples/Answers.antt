use Rattle.std.proofs.Common.{◌≡◌, ℕ, ◌+◌, ◌*◌, ◌<◌, drop, get_or, ap, ◌∙◌, sym, arith, rules, get_or-drop}
use Rattle.rules.specs.Script.{thirds}
use Rattle.script.specs.declared.part.Handle.{Handle}
use Rattle.script.specs.Parts.{no_handle}
use Rattle.script.proofs.Mapped.{thirds_over}
use Rattle.script.proofs.header.triples.Goals as goal

pub returns-clause-kinds : goal.returns-clause-kinds
returns-clause-kinds c =
    let w = c.from_fn.ensures.items in
    let bs = c.args.header.now in
    let hs = c.from_fn.result in
    thirds_over (λ (h : Handle). h.kind) no_handle hs (drop 2 bs) (λ i lt.
    let few : i < 8 = omega (arith, w.long, lt) in
    let v = w.at i no_handle few in
    let here : (get_or hs i no_handle).kind ≡ get_or bs (3 * i + 2) 0 = search rules in
    let place : 3 * i + 2 ≡ 2 + 3 * i = omega arith in
    here ∙ ap (λ (j : ℕ). get_or bs j 0) place ∙ sym (get_or-drop 2 bs (3 * i) 0))
    ∙ ap (λ (n : ℕ). thirds n (drop 2 bs)) w.long

pub returns-clause-ins : goal.returns-clause-ins
returns-clause-ins c =
    let w = c.from_fn.ensures.items in
    let bs = c.args.header.now in
    let hs = c.from_fn.result in
    thirds_over (λ (h : Handle). h.enters) no_handle hs (drop 3 bs) (λ i lt.
    let few : i < 8 = omega (arith, w.long, lt) in
    let v = w.at i no_handle few in
    let here : (get_or hs i no_handle).enters ≡ get_or bs (3 * i + 3) 0 = search rules in
    let place : 3 * i + 3 ≡ 3 + 3 * i = omega arith in
    here ∙ ap (λ (j : ℕ). get_or bs j 0) place ∙ sym (get_or-drop 3 bs (3 * i) 0))
    ∙ ap (λ (n : ℕ). thirds n (drop 3 bs)) w.long

pub returns-clause-outs : goal.returns-clause-outs
returns-clause-outs c =
    let w = c.from_fn.ensures.items in
    let bs = c.args.header.now in
    let hs = c.from_fn.result in
    thirds_over (λ (h : Handle). h.leaves) no_handle hs (drop 4 bs) (λ i lt.
    let few : i < 8 = omega (arith, w.long, lt) in
    let v = w.at i no_handle few in
    let here : (get_or hs i no_handle).leaves ≡ get_or bs (3 * i + 4) 0 = search rules in
    let place : 3 * i + 4 ≡ 4 + 3 * i = omega arith in
    here ∙ ap (λ (j : ℕ). get_or bs j 0) place ∙ sym (get_or-drop 4 bs (3 * i) 0))
    ∙ ap (λ (n : ℕ). thirds n (drop 4 bs)) w.long
