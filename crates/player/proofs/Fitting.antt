-- A port has the table of its kind where it has one that shows the kind's edges.
use Rattle.std.proofs.Common.{◌≡◌, ℕ, ◌<◌, length, get_or, ap, ◌∙◌}
use Rattle.protocol.specs.declared.table.EdgeTable.{EdgeTable}
use Rattle.protocol.specs.Slots.{table_in}
use Rattle.protocol.specs.Tables.{same_table, table_of}
use Rattle.protocol.proofs.Same.{tables_alike}
use Rattle.book.specs.Held.{kind_held}
use Rattle.book.specs.Kinds.{Kind, no_kind}
use Rattle.book.specs.Reading.{kinds_of, read_book}
use Rattle.device.specs.Ports.{Ports, edge_at, has_table_at}
use Rattle.device.proofs.Numbered.{table_of_port}
use Rattle.machine.specs.Player.{main, port_kind, port_table}
use Rattle.player.specs.declared.loaded.Loaded.{Loaded}
use Rattle.player.specs.Loaded.{held}

-- the kinds of the script are those of its book
kind_of_port : (l : Loaded) (p k : ℕ) → k ≡ get_or (main (held l)).kinds p 0 → kind_held l.book k ≡ port_kind (held l) p
kind_of_port l p k e i = get_or (kinds_of (read_book (l.same_book i))) (e i) no_kind

pub port_fits : (l : Loaded) (g : Ports) (p k : ℕ) (t : EdgeTable) → p < length g → k ≡ get_or (main (held l)).kinds p 0 →
    ((s x a : ℕ) → table_in t s x a ≡ table_of (kind_held l.book k).edges s x a) →
    has_table_at g p (table_in t) ≡ same_table (edge_at g p) (port_table (held l) p)
port_fits l g p k t lt e shows =
    table_of_port g p (table_in t) lt
    ∙ tables_alike (edge_at g p) (table_in t) (port_table (held l) p) (λ s x a. shows s x a ∙ ap (λ (v : Kind). table_of v.edges s x a) (kind_of_port l p k e))
