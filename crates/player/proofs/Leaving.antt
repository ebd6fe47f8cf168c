-- There is room still, where blocks are left.
use Rattle.std.proofs.Common.{◌≡◌, List, [], sym, subst}
use Rattle.std.proofs.Math.Logic.{∥∥₁_map}
use Rattle.rules.specs.Script.{Script}
use Rattle.machine.specs.Player.{Frame}
use Rattle.machine.specs.Steps.{unwound}
use Rattle.machine.proofs.Open.{Open, open_unwound}

pub all_left : (s : Script) {fs : List Frame} → fs ≡ [] → ∥ Open s fs ∥₁
all_left s e = subst (λ (fs : List Frame). ∥ Open s fs ∥₁) (sym e) ∣ tt ∣₁

pub ended_left : (s : Script) (fs : List Frame) {fs' : List Frame} → ∥ Open s fs ∥₁ → fs' ≡ unwound fs → ∥ Open s fs' ∥₁
ended_left s fs o e = subst (λ (fs' : List Frame). ∥ Open s fs' ∥₁) (sym e) (∥∥₁_map o (open_unwound s fs))
