use Rattle.std.proofs.Common.{sym, ◌∙◌}
use Rattle.std.proofs.lemmas.Slice.Zip.{zip_end}
use Rattle.script.proofs.Handing.{hand_none}
use Rattle.script.proofs.keys.hand_over.Goals as goal

pub returns : goal.returns
returns c =
    let n = zip_end c.args.bound.now c.args.handles.now c.loop-binding.yielded c.into_iter-binding-iterator.result c.loop-binding.binding-iterator c.next.new.self c.next.result (cc) (cc) c.loop-binding.yielded_by c.in-None.is c.next.ensures.steps in
    sym (c.loop-binding.invariant ∙ hand_none c.loop-binding.keys c.args.bound.now c.args.handles.now _ n)
