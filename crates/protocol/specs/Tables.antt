-- Tables of edges, and which letters are allowed and which answers declared.
use Rattle.std.specs.Prelude.{◌≡◌, ℕ, ◌<◌, Bool, true, false, ◌&&◌, ◌||◌, List, [], ◌∷◌, is_some, Some, None, Option, ◌==◌, nat_lt, count_by, filter, flat_map}
use Rattle.protocol.specs.declared.edges.Edge.{Edge}
use Rattle.protocol.specs.Lists.{all, first_of, from}

-- by station, letter and answer, where an edge leads, or none
abbrev pub Table : Type 0
Table = ℕ → ℕ → ℕ → Option ℕ

abbrev pub Ranged : Table → Type 0
Ranged e = (s l a t : ℕ) → e s l a ≡ Some t → (s < 16) × (l < 16) × (a < 4) × (t < 16)

-- the answer is declared for the letter at the station
abbrev pub Declared : Table → ℕ → ℕ → ℕ → Type 0
Declared e s l a = (t : ℕ) × (e s l a ≡ Some t)

-- the letter has an answer at the station
abbrev pub Allowed : Table → ℕ → ℕ → Type 0
Allowed e s l = (a : ℕ) × (t : ℕ) × (e s l a ≡ Some t)

abbrev pub allowed : Table → ℕ → ℕ → Bool
allowed e s l = is_some (e s l 0) || (is_some (e s l 1) || (is_some (e s l 2) || is_some (e s l 3)))

-- the successors under the answers 0 to 3
abbrev pub successors : Table → ℕ → ℕ → List (Option ℕ)
successors e s l = e s l 0 ∷ e s l 1 ∷ e s l 2 ∷ e s l 3 ∷ []

-- where a letter leads, by station and answer
abbrev pub ends : Table → ℕ → List (Option ℕ)
ends e l = flat_map (λ s. successors e s l) (from 0 16)

-- how many edges the letter has
unfoldable pub edge_count : Table → ℕ → ℕ
edge_count e l = count_by is_some (ends e l)

abbrev pub edge_in_range : Edge → Bool
edge_in_range e = nat_lt e.from 16 && (nat_lt e.letter 16 && (nat_lt e.answer 4 && nat_lt e.to 16))

abbrev pub EdgeRanged : Edge → Type 0
EdgeRanged e = (e.from < 16) × (e.letter < 16) × (e.answer < 4) × (e.to < 16)

-- of one station, letter and answer
abbrev pub SameEdge : Edge → Edge → Type 0
SameEdge e f = (e.from ≡ f.from) × (e.letter ≡ f.letter) × (e.answer ≡ f.answer)

-- the edge is of the station, letter and answer
abbrev pub leads : Edge → ℕ → ℕ → ℕ → Bool
leads e s l a = e.from == s && (e.letter == l && e.answer == a)

-- the edges of a list, the first where two have one station, letter and answer
abbrev pub table_of : List Edge → Table
table_of es s l a = first_of (λ e. leads e s l a) (λ e. e.to) es

-- the edges of a letter
abbrev pub of_letter : ℕ → List Edge → List Edge
of_letter l es = filter (λ e. e.letter == l) es

-- Tables that agree

abbrev pub same_option : Option ℕ → Option ℕ → Bool
same_option None None = true
same_option None (Some y) = false
same_option (Some x) None = false
same_option (Some x) (Some y) = x == y

-- the same for every station, letter and answer
unfoldable pub same_table : Table → Table → Bool
same_table e f = all (λ s. all (λ l. all (λ a. same_option (e s l a) (f s l a)) (from 0 4)) (from 0 16)) (from 0 16)

-- a letter in one has the edges of a letter in the other: at a station, and at all
abbrev pub same_answers : Table → ℕ → Table → ℕ → ℕ → Bool
same_answers e l f m s = all (λ a. same_option (e s l a) (f s m a)) (from 0 4)

unfoldable pub same_letter : Table → ℕ → Table → ℕ → Bool
same_letter e l f m = all (same_answers e l f m) (from 0 16)
