-- Tests of lists. Rows of numbers are those of protocols.
use Rattle.std.specs.Prelude.{◌≡◌, ℕ, suc, ◌+◌, ◌*◌, ◌<◌, Bool, true, false, not, ◌&&◌, ◌||◌, List, [], ◌∷◌, length, ◌==◌, slice_index}
pub use Rattle.protocol.specs.Lists.{from}

abbrev pub same : List ℕ → List ℕ → Bool
same [] [] = true
same [] (y ∷ ys) = false
same (x ∷ xs) [] = false
same (x ∷ xs) (y ∷ ys) = x == y && same xs ys

abbrev pub has : ℕ → List ℕ → Bool
has n [] = false
has n (x ∷ xs) = n == x || has n xs

abbrev pub distinct : List ℕ → Bool
distinct [] = true
distinct (x ∷ xs) = not (has x xs) && distinct xs

-- no number stands at two places
abbrev pub Different : List ℕ → Type 0
Different xs = (i j : ℕ) → i < length xs → j < length xs → slice_index xs i ≡ slice_index xs j → i ≡ j

abbrev pub empty : {X : Type 0} → List X → Bool
empty [] = true
empty (x ∷ xs) = false

abbrev pub total : List ℕ → ℕ
total [] = 0
total (x ∷ xs) = x + total xs

-- two bytes as a number, the low one first
abbrev pub joined : ℕ → ℕ → ℕ
joined low high = low + 256 * high

-- those that stand at the place and behind it
abbrev pub word : List ℕ → ℕ → ℕ
word bs i = slice_index bs i + 256 * slice_index bs (suc i)
