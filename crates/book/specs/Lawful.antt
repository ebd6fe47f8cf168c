-- What a book is, apart from how it is checked.
use Rattle.std.specs.Prelude.{◌≡◌, ℕ, suc, ◌<◌, ◌≤◌, ◌⊎◌, List, [], ◌∷◌, ◌++◌, map, length, Ok}
use Rattle.protocol.specs.declared.edges.Edge.{Edge}
use Rattle.protocol.specs.Lists.{Each, SomeOne, Apart}
use Rattle.protocol.specs.Tables.{EdgeRanged, SameEdge}
use Rattle.book.specs.declared.automaton.Retreat.{Retreat}
use Rattle.book.specs.Kinds.{Kind}
use Rattle.book.specs.Reading.{read_book}

-- How a book is written

-- what stands behind a KIND
pub data Item : Type 0 where
  edge : Edge → Item
  retreat : Retreat → Item

abbrev pub item_bytes : Item → List ℕ
item_bytes (edge e) = 0x02 ∷ e.from ∷ e.letter ∷ e.answer ∷ e.to ∷ []
item_bytes (retreat r) = 0x03 ∷ r.station ∷ r.letter ∷ r.rank ∷ []

abbrev pub items_bytes : List Item → List ℕ
items_bytes [] = []
items_bytes (i ∷ is) = item_bytes i ++ items_bytes is

-- kinds one after the other, the first of the number given
abbrev pub kinds_bytes : ℕ → List (List Item) → List ℕ
kinds_bytes k [] = []
kinds_bytes k (is ∷ iss) = 0x01 ∷ k ∷ (items_bytes is ++ kinds_bytes (suc k) iss)

abbrev pub edges_in : List Item → List Edge
edges_in [] = []
edges_in (edge e ∷ is) = e ∷ edges_in is
edges_in (retreat r ∷ is) = edges_in is

abbrev pub retreats_in : List Item → List Retreat
retreats_in [] = []
retreats_in (edge e ∷ is) = retreats_in is
retreats_in (retreat r ∷ is) = r ∷ retreats_in is

abbrev pub kind_in : List Item → Kind
kind_in is = record { edges = edges_in is; retreats = retreats_in is }

-- What a kind keeps

abbrev pub RetreatRanged : Retreat → Type 0
RetreatRanged r = (0 < r.station) × (r.station < 16) × (r.letter < 16) × (0 < r.rank) × (r.rank < 16)

abbrev pub SameStation : Retreat → Retreat → Type 0
SameStation r q = r.station ≡ q.station

-- away, or a retreat is declared for it
abbrev pub Homed : List Retreat → ℕ → Type 0
Homed rs s = (s ≡ 0) ⊎ SomeOne (λ r. r.station ≡ s) rs

-- the edge is one of the retreat's station and letter
abbrev pub Departs : Retreat → Edge → Type 0
Departs r e = (e.from ≡ r.station) × (e.letter ≡ r.letter)

-- away, which has rank 0, or of a smaller rank
abbrev pub Nearer : List Retreat → Retreat → ℕ → Type 0
Nearer rs r s = (s ≡ 0) ⊎ SomeOne (λ q. (q.station ≡ s) × (q.rank < r.rank)) rs

pub record LawfulKind (k : Kind) : Type 0 where
  pub edges_ranged : Each EdgeRanged k.edges
  pub retreats_ranged : Each RetreatRanged k.retreats
  pub edges_new : Apart SameEdge k.edges
  pub retreats_new : Apart SameStation k.retreats
  pub homed : Each (λ e. Homed k.retreats e.from × Homed k.retreats e.to) k.edges
  pub allowed : Each (λ r. SomeOne (Departs r) k.edges) k.retreats
  pub falls : Each (λ r. Each (λ e. Departs r e → Nearer k.retreats r e.to) k.edges) k.retreats

-- the bytes declare these kinds
pub record Declares (bs : List ℕ) (ks : List Kind) : Type 0 where
  pub short : length bs ≤ 8192
  pub items : List (List Item)
  pub written : bs ≡ kinds_bytes 0 items
  pub kinds : ks ≡ map kind_in items
  pub few : length ks ≤ 8
  pub lawful : Each LawfulKind ks

-- the check passes exactly the bytes that declare kinds, with those kinds
abbrev pub BookDecides : Type 0
BookDecides = (bs : List ℕ) (ks : List Kind) → (read_book bs ≡ Ok ks → Declares bs ks) × (Declares bs ks → read_book bs ≡ Ok ks)
