-- The way home: retreat letters, sent again and again, lead a device away.
use Rattle.std.specs.Prelude.{◌≡◌, ℕ, suc, ◌≤◌, ◌⊎◌, List, get_or, Some, Ok, slice_index_or}
use Rattle.protocol.specs.Lists.{SomeOne}
use Rattle.protocol.specs.Tables.{Allowed, table_of}
use Rattle.book.specs.declared.automaton.Retreat.{Retreat}
use Rattle.book.specs.Kinds.{Kind, no_kind, retreat_of, rank_of}
use Rattle.book.specs.Reading.{read_book}

-- an edge of the kind begins or ends at the station, or it is away
abbrev pub Named : Kind → ℕ → Type 0
Named k s = (s ≡ 0) ⊎ SomeOne (λ e. (e.from ≡ s) ⊎ (e.to ≡ s)) k.edges

-- from the station at most so many retreat letters lead away, whatever is answered
pub data ComesHome (k : Kind) : ℕ → ℕ → Type 0 where
  is_away : (n : ℕ) → ComesHome k 0 n
  retreats : (s n : ℕ) (r : Retreat) → retreat_of k.retreats s ≡ Some r →
      Allowed (table_of k.edges) s r.letter →
      ((a t : ℕ) → table_of k.edges s r.letter a ≡ Some t → ComesHome k t n) →
      ComesHome k s (suc n)

-- in a passed book every named station comes home within its rank, which is at most 15
abbrev pub RetreatsLeadHome : Type 0
RetreatsLeadHome = (bs : List ℕ) (ks : List Kind) → read_book bs ≡ Ok ks → (k s : ℕ) → Named (slice_index_or ks k no_kind) s →
    ComesHome (slice_index_or ks k no_kind) s (rank_of (retreat_of (get_or ks k no_kind).retreats s)) × (rank_of (retreat_of (get_or ks k no_kind).retreats s) ≤ 15)
