-- The simulated projector.
use Rattle.std.specs.Prelude.{ℕ, ◌%◌, cond, ◌&&◌, List, [], ◌∷◌, drop, ◌==◌, slice_index}
use Rattle.std.specs.Option.{unwrap_or}
use Rattle.protocol.specs.declared.edges.Edge.{Edge}
use Rattle.protocol.specs.Tables.{Table, allowed, table_of}
use Rattle.device.specs.declared.projector.Projector.{Projector}
use Rattle.device.specs.Meaning.{Meaning}

abbrev pub edge : ℕ → ℕ → ℕ → ℕ → Edge
edge s l a t = record { from = s; letter = l; answer = a; to = t }

abbrev pub projector_edges : List Edge
projector_edges =
    edge 0 0 0 1
    ∷ edge 1 1 0 0
    ∷ edge 1 2 0 2
    ∷ edge 2 3 0 3
    ∷ edge 2 3 1 2
    ∷ edge 2 3 2 1
    ∷ edge 3 4 0 4
    ∷ edge 4 5 0 3
    ∷ edge 2 6 0 1
    ∷ edge 3 6 0 1
    ∷ []

abbrev pub projector_table : Table
projector_table = table_of projector_edges

-- at a station, after so many letters, the last letter and the last answer; it keeps no memory
abbrev pub projected : ℕ → ℕ → ℕ → ℕ → Meaning
projected s h l a = record {
  table = projector_table;
  station = s;
  heard = h;
  letter = l;
  answer = a;
  memory = [];
  rule = λ m l a. [];
}

abbrev pub projector_meaning : Projector → Meaning
projector_meaning p = projected p.station p.tally.heard p.tally.letter p.tally.answer

abbrev pub replies_of : Projector → List ℕ
replies_of p = p.replies.now

-- the next reply, 0 past the end
abbrev pub next_reply : List ℕ → ℕ
next_reply rs = slice_index rs 0 % 3

-- letter 3 alone takes a reply, and only where it is allowed
abbrev pub answer_of : Projector → ℕ → ℕ
answer_of p l = cond (allowed projector_table p.station l) (cond (l == 3) (next_reply (replies_of p)) 0) 255

abbrev pub replies_after : Projector → ℕ → List ℕ
replies_after p l = cond (allowed projector_table p.station l && l == 3) (drop 1 (replies_of p)) (replies_of p)

-- the station after a letter and its answer
abbrev pub arrived : ℕ → ℕ → ℕ → ℕ
arrived s l a = unwrap_or (projector_table s l a) 16
