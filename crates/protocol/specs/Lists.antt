-- Tests and facts of all of a list, or of some of it; rows of numbers.
use Rattle.std.specs.Prelude.{ℕ, zero, suc, Bool, true, cond, ◌&&◌, ◌⊎◌, List, [], ◌∷◌, Some, None, Option}

abbrev pub all : {X : Type 0} → (X → Bool) → List X → Bool
all f [] = true
all f (x ∷ xs) = f x && all f xs

abbrev pub Each : {X : Type 0} → (X → Type 0) → List X → Type 0
Each P [] = Unit {0}
Each P (x ∷ xs) = P x × Each P xs

abbrev pub SomeOne : {X : Type 0} → (X → Type 0) → List X → Type 0
SomeOne P [] = ⊥
SomeOne P (x ∷ xs) = P x ⊎ SomeOne P xs

-- no two that stand at different places are alike
abbrev pub Apart : {X : Type 0} → (X → X → Type 0) → List X → Type 0
Apart Alike [] = Unit {0}
Apart Alike (x ∷ xs) = Each (λ y. Alike x y → ⊥) xs × Apart Alike xs

-- what the first that passes the test gives
abbrev pub first_of : {X Y : Type 0} → (X → Bool) → (X → Y) → List X → Option Y
first_of f g [] = None
first_of f g (x ∷ xs) = cond (f x) (Some (g x)) (first_of f g xs)

-- n, n + 1, .. : as many as k
abbrev pub from : ℕ → ℕ → List ℕ
from n zero = []
from n (suc k) = n ∷ from (suc n) k
