use Rattle.std.proofs.Common.{◌≡◌, ℕ, suc, ◌-◌, ◌<◌, List, length, map, drop, sym, ap, ◌∙◌, subst, arith}
use Rattle.std.specs.List.{All}
use Rattle.std.proofs.lemmas.List.Elements.{All-nil, All-push}
use Rattle.book.specs.Held.{kinds_held}
use Rattle.rules.specs.Check.{check_parts}
use Rattle.script.specs.declared.part.Part.{Part}
use Rattle.script.specs.Parts.{shown, Lies}
use Rattle.script.specs.Scripts.{next_part}
use Rattle.script.proofs.Behind.{left_stops, left_turn}
use Rattle.script.proofs.Turns.{passed}
use Rattle.script.proofs.draft.Draft.read_parts.Goals as goal

pub loop-place-init : goal.loop-place-init
loop-place-init c =
    let bs = c.args.self.now.bytes.now in
    (omega arith, subst (λ (v : List Part). All (Lies bs) v) (sym c.new-parts.ensures) (All-nil (Lies bs)), ap (λ (v : List Part). check_parts (17 - length v) (kinds_held c.args.self.now.book.now) (map (shown bs) v) 0 bs) (sym c.new-parts.ensures))

pub returns-in_err-part : goal.returns-in_err-part
returns-in_err-part c =
    let book = kinds_held c.args.self.now.book.now in
    let bs = c.args.self.now.bytes.now in
    let ps = c.loop-place.parts.items in
    let at = c.loop-place.place in
    let few = c.as_slice.ensures.fits in
    let len = ap length c.as_slice.ensures.value in
    let fuel : 17 - length ps ≡ suc (16 - length ps) = omega (arith, few, len) in
    rw (passed _ _ c.from_residual.ensures.1)
    (c.loop-place.invariant.2 ∙ ap (λ (n : ℕ). check_parts n book (map (shown bs) ps) at (drop at bs)) fuel
    ∙ left_stops book bs (16 - length ps) (map (shown bs) ps) at _ (omega arith)
    (ap (λ (v : List Part). next_part book (map (shown bs) v) at (drop at bs)) (sym c.as_slice.ensures.value) ∙ c.in_err-part.ensures.gives))

pub loop-place-preserved : goal.loop-place-preserved
loop-place-preserved c =
    let book = kinds_held c.args.self.now.book.now in
    let bs = c.args.self.now.bytes.now in
    let ps = c.loop-place.parts.items in
    let at = c.loop-place.place in
    let w = c.in_ok-part.ensures in
    let len = ap length c.as_slice.ensures.value in
    let few : length ps < 16 = omega (arith, w.few, len) in
    let next = ap (λ (v : List Part). next_part book (map (shown bs) v) at (drop at bs)) (sym c.as_slice.ensures.value) ∙ w.gives.0 in
    (omega (arith, w.gives.1, w.gives.2), subst (λ (v : List Part). All (Lies bs) v) (sym c.push.ensures.items) (All-push (Lies bs) ps c.in_ok-part.part c.loop-place.invariant.1 w.gives.1), c.loop-place.invariant.2 ∙ left_turn book bs ps c.push.new.self.items at c.in_ok-part.part (omega arith) few c.push.ensures.items (next, w.gives.1, w.gives.2))
