-- What the dimmer means: its edges, and the rule of its memory.
use Rattle.std.specs.Prelude.{ℕ, ◌+◌, min, cond, ◌&&◌, List, [], ◌∷◌, ◌==◌, nat_lt, slice_index, refl}
use Rattle.protocol.specs.declared.edges.Edge.{Edge}
use Rattle.protocol.specs.Tables.{Ranged, Table, table_of}
use Rattle.protocol.proofs.Ranges.{listed_ranged}

-- stations 0 away, 1 dark, 2 lit; letters 0 take, 1 release, 2 brighter, 3 darker
abbrev pub dimmer_edges : List Edge
dimmer_edges =
    record { from = 0; letter = 0; answer = 0; to = 1 } ∷
    record { from = 1; letter = 1; answer = 0; to = 0 } ∷
    record { from = 2; letter = 1; answer = 0; to = 0 } ∷
    record { from = 1; letter = 2; answer = 0; to = 2 } ∷
    record { from = 1; letter = 2; answer = 1; to = 1 } ∷
    record { from = 2; letter = 2; answer = 0; to = 2 } ∷
    record { from = 2; letter = 3; answer = 0; to = 1 } ∷ []

abbrev pub dimmer_table : Table
dimmer_table = table_of dimmer_edges

pub dimmer_ranged : Ranged dimmer_table
dimmer_ranged = listed_ranged dimmer_edges refl

-- a dark lamp stays dark under brighter until it has level 2; any other letter has the answer 0 alone
abbrev pub reply_of : ℕ → ℕ → ℕ → ℕ
reply_of s v l = cond (s == 1 && (l == 2 && nat_lt v 2)) 1 0

-- brighter that leaves it dark raises the level by one, to 2 at most, and one that lights it, to 3; any other letter puts it to 0
abbrev pub level_after : ℕ → ℕ → ℕ → ℕ
level_after v l a = cond (l == 2) (cond (a == 0) 3 (min v 1 + 1)) 0

-- the memory is the level alone
abbrev pub dimmer_rule : List ℕ → ℕ → ℕ → List ℕ
dimmer_rule ms l a = level_after (slice_index ms 0) l a ∷ []
