use Rattle.std.proofs.Common.{List, get_or, Some, ap, ◌∙◌, sym, arith}
use Rattle.std.specs.List.{slice_get}
use Rattle.device.specs.declared.ring.Pair.{Pair}
use Rattle.device.proofs.Turning.{around, at_place, oldest_within, past_places}
use Rattle.device.proofs.ring.Ring.pair.Goals as goal

pub returns-then-place-len : goal.returns-then-place-len
returns-then-place-len c =
    let r = c.self.invariant in
    let same = around r c.args.place (omega arith) in
    (cc (c.deref.ensures.0, same))
    ∙ at_place c.self.inside.oldest c.self.inside.pairs.items (oldest_within r) c.args.place (record { letter = 0; answer = 0 }) (omega arith)
    ∙ ap (λ (xs : List Pair). slice_get xs c.args.place) c.self.view_is

pub returns-else-place-len : goal.returns-else-place-len
returns-else-place-len c =
    past_places c.self.inside.oldest c.self.inside.pairs.items (oldest_within c.self.invariant) c.args.place (omega arith)
    ∙ ap (λ (xs : List Pair). slice_get xs c.args.place) c.self.view_is
