-- A ring of places, from the oldest on.
use Rattle.std.specs.Prelude.{◌≡◌, ℕ, ◌-◌, ◌<◌, ◌≤◌, List, ◌++◌, length, take, drop}

-- the last of a list, at most so many
abbrev pub last : {X : Type 0} → ℕ → List X → List X
last n xs = drop (length xs - n) xs

-- from a place on, around the end
abbrev pub from_place : {X : Type 0} → ℕ → List X → List X
from_place k xs = drop k xs ++ take k xs

-- the place of the oldest of a ring with so much room; until it is full, that is the first
pub record IsRing {X : Type 0} (room place : ℕ) (xs : List X) : Type 0 where
  pub few : length xs ≤ room
  pub within : place < room
  pub first : length xs < room → place ≡ 0
