-- How many edges a letter of a held table has.
use Rattle.std.proofs.Common.{◌≡◌, ℕ, ◌<◌, ◌≤◌, cond, get_or, length, count_by, is_some, None, refl, ap, le-ltb}
use Rattle.protocol.specs.declared.letter_edges.LetterEdges.{LetterEdges}
use Rattle.protocol.specs.declared.table.EdgeTable.{EdgeTable}
use Rattle.protocol.specs.Slots.{led_in, no_edges, table_in}
use Rattle.protocol.specs.Tables.{edge_count}
use Rattle.protocol.proofs.Tests.{is_less}
use Rattle.protocol.proofs.Counting.{counts_held, counts_none}

pub held_count : (t : EdgeTable) (l : ℕ) (e : LetterEdges) → l < 16 → e ≡ get_or t.letters l no_edges → length e.to ≡ 64 → edge_count (table_in t) l ≡ count_by is_some e.to
held_count t l e ll at long = counts_held (table_in t) l e.to long (λ s a sl al. rw (is_less ll, is_less sl, is_less al, at) refl)

pub past_count : (t : EdgeTable) (l : ℕ) → 16 ≤ l → edge_count (table_in t) l ≡ 0
past_count t l le = counts_none (table_in t) l (λ s a. ap (λ b. cond b (led_in (get_or t.letters l no_edges) s a) None) (le-ltb l 16 le))
