-- Kinds of device: edges, and retreats with ranks.
use Rattle.std.specs.Prelude.{ℕ, Bool, true, cond, ◌&&◌, ◌||◌, List, [], is_some, Some, None, Option, ◌==◌, nat_eq, nat_lt}
use Rattle.std.specs.Option.{option_map}
use Rattle.protocol.specs.declared.edges.Edge.{Edge}
use Rattle.protocol.specs.Lists.{all, first_of}
use Rattle.protocol.specs.Tables.{Table, allowed, successors}
use Rattle.book.specs.declared.automaton.Retreat.{Retreat}

pub record Kind : Type 0 where
  pub edges : List Edge
  pub retreats : List Retreat

abbrev pub no_kind : Kind
no_kind = record { edges = []; retreats = [] }

-- by station, its retreat, or none
abbrev pub Retreats : Type 0
Retreats = ℕ → Option Retreat

-- the retreats of a list, the first where two have one station
abbrev pub retreat_of : List Retreat → Retreats
retreat_of rs s = first_of (λ r. nat_eq r.station s) (λ r. r) rs

abbrev pub rank_of : Option Retreat → ℕ
rank_of (Some r) = r.rank
rank_of None = 0

-- 0 at away, elsewhere that of the retreat, or none
abbrev pub rank_at : Retreats → ℕ → Option ℕ
rank_at h s = cond (s == 0) (Some 0) (option_map (λ r. r.rank) (h s))

-- away, or it has a retreat
abbrev pub homed : Retreats → ℕ → Bool
homed h s = s == 0 || is_some (h s)

-- an answer that is declared leads to a smaller rank
abbrev pub nearer : Retreats → Retreat → Option ℕ → Bool
nearer h r None = true
nearer h r (Some t) = nat_lt (rank_of (h t)) r.rank

-- the retreat's letter is allowed at its station, and every answer to it leads to a smaller rank
abbrev pub falls : Table → Retreats → Retreat → Bool
falls t h r = allowed t r.station r.letter && all (nearer h r) (successors t r.station r.letter)

abbrev pub retreat_in_range : Retreat → Bool
retreat_in_range r = nat_lt 0 r.station && (nat_lt r.station 16 && (nat_lt r.letter 16 && (nat_lt 0 r.rank && nat_lt r.rank 16)))
