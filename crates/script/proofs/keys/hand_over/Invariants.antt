use Rattle.std.proofs.Common.{◌≡◌, length, drop, map}
use Rattle.rules.specs.Script.{hand_over}
use Rattle.script.proofs.keys.hand_over.Given as goal

-- what is left to hand over
abbrev pub invariant-loop-binding : goal.invariant-loop-binding
invariant-loop-binding l =
    let n = length l.yielded in
    hand_over l.initial.keys l.bound (map (λ h. h.leaves) l.handles) ≡ hand_over l.keys (drop n l.bound) (map (λ h. h.leaves) (drop n l.handles))
