-- Every table of a book that passes is in range.
use Rattle.std.proofs.Common.{◌≡◌, ℕ, List, get_or, Ok}
use Rattle.protocol.specs.Tables.{Ranged, table_of}
use Rattle.protocol.proofs.Lists.{each_at}
use Rattle.book.specs.Kinds.{Kind, no_kind}
use Rattle.book.specs.Reading.{read_book}
use Rattle.book.specs.Lawful.{LawfulKind}
use Rattle.book.proofs.Home.{none_lawful}
use Rattle.book.proofs.Passed.{passed_declares}
use Rattle.protocol.proofs.Ranges.{table_ranged}

pub passed_ranged : (bb : List ℕ) (book : List Kind) → read_book bb ≡ Ok book → (k : ℕ) → Ranged (table_of (get_or book k no_kind).edges)
passed_ranged bb book e k = table_ranged (get_or book k no_kind).edges (each_at LawfulKind book no_kind none_lawful (passed_declares bb book e).lawful k).edges_ranged
