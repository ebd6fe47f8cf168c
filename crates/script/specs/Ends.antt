-- What values have in common.
use Rattle.std.specs.Prelude.{Bool, cond, List, [], ◌∷◌, Some, None, Option}
use Rattle.std.specs.List.{list_all}

-- the one value that all of them are
abbrev pub common_by : {X : Type 0} → (X → X → Bool) → List X → Option X
common_by same [] = None
common_by same (x ∷ xs) = cond (list_all (λ y. same y x) xs) (Some x) None
