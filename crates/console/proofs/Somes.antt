-- All of a list, one after the other.
use Rattle.std.proofs.Common.{◌≡◌, List, [], ◌++◌, Some, None, Option, refl}

abbrev pub behind : {X : Type 0} → List X → Option (List X) → Option (List X)
behind xs (Some ys) = Some (xs ++ ys)
behind xs None = None

pub behind_nothing : {X : Type 0} (o : Option (List X)) → o ≡ behind [] o
behind_nothing (Some ys) = refl
behind_nothing None = refl
