-- The table that a held one stands for.
use Rattle.std.specs.Prelude.{ℕ, ◌+◌, ◌*◌, cond, ◌&&◌, [], None, Option, nat_lt, refl, slice_index_or}
use Rattle.protocol.specs.declared.letter_edges.LetterEdges.{LetterEdges}
use Rattle.protocol.specs.declared.table.EdgeTable.{EdgeTable}
use Rattle.protocol.specs.Tables.{Table}

abbrev pub slot_of : ℕ → ℕ → ℕ
slot_of s a = 4 * s + a

-- where the edge of a letter leads
abbrev pub led_in : LetterEdges → ℕ → ℕ → Option ℕ
led_in e s a = cond (nat_lt s 16 && nat_lt a 4) (slice_index_or e.to (slot_of s a) None) None

abbrev pub no_edges : LetterEdges
no_edges = record { to = []; count = 0; counted = refl }

abbrev pub table_in : EdgeTable → Table
table_in t s l a = cond (nat_lt l 16) (led_in (slice_index_or t.letters l no_edges) s a) None
