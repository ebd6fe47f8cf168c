use Rattle.std.proofs.Common.{ℕ, ◌-◌, ◌<◌, ◌≤◌, List, ◌∷◌, length, take, drop, length-set, refl, ap, ◌∙◌, arith}
use Rattle.std.proofs.lemmas.List.{take_rest}
use Rattle.console.proofs.Pairs.{one_written, two_written}
use Rattle.console.proofs.Somes.{behind_nothing}
use Rattle.console.proofs.digits.spaced_bytes.Goals as goal

pub loop-text-init : goal.loop-text-init
loop-text-init c = record {
  same = behind_nothing _;
  room = omega arith;
  within = omega arith;
  long = refl;
}

pub loop-text-preserved-in-loop-text : goal.loop-text-preserved-in-loop-text
loop-text-preserved-in-loop-text c =
    let t = c.loop-text.text in
    let s : List ℕ = take (length t - c.loop-text.from) (drop c.loop-text.from t) in
    record {
      same = c.loop-text.invariant.same ∙ two_written t c.loop-text.len c.loop-text.from s c.in-Some.first c.in-Some-hex_byte.second (take_rest t c.loop-text.from) c.loop-text.invariant.room (omega arith) c.in-len4-up.len_at_least c.in-Some.ensures c.in-Some-hex_byte.ensures;
      room = omega arith;
      within = omega (arith, length-set {A = ℕ});
      long = simp length-set c.loop-text.invariant.long;
    }

pub loop-text-preserved : goal.loop-text-preserved
loop-text-preserved c =
    let t = c.loop-text.text in
    let first : c.loop-text.from < c.in-Some-next_byte.after = c.in-Some-next_byte.ensures.behind in
    let second : c.in-Some-next_byte.after < c.in_ok-low.after = c.in_ok-low.ensures.behind in
    let within : c.in_ok-low.after ≤ length t = c.in_ok-low.ensures.within in
    let digits = c.in-Some-next_byte.ensures.next ∙ ap (λ ds. c.in-Some-next_byte.high ∷ ds) c.in_ok-low.ensures.next in
    record {
      same = c.loop-text.invariant.same ∙ one_written t c.loop-text.len c.loop-text.from c.in_ok-low.after c.in-Some-next_byte.high c.in_ok-low.low c.in_ok-text.field-0 (omega arith) (omega arith) digits c.in_ok-text.ensures;
      room = omega arith;
      within = omega (arith, length-set {A = ℕ});
      long = simp length-set c.loop-text.invariant.long;
    }
