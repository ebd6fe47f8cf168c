-- The book that is held.
use Rattle.std.specs.Prelude.{ℕ, cond, List, length, None, Option, nat_lt, slice_index_or}
use Rattle.book.specs.declared.book.Book.{Book}
use Rattle.book.specs.Kinds.{Kind, no_kind, retreat_of, rank_at}
use Rattle.book.specs.Reading.{read_book, kinds_of}

abbrev pub bytes_of : Book → List ℕ
bytes_of b = b.bytes.now

abbrev pub kinds_held : Book → List Kind
kinds_held b = kinds_of (read_book (bytes_of b))

abbrev pub kind_held : Book → ℕ → Kind
kind_held b k = slice_index_or (kinds_held b) k no_kind

-- none beyond the kinds
abbrev pub rank_held : Book → ℕ → ℕ → Option ℕ
rank_held b k s = cond (nat_lt k (length (kinds_held b))) (rank_at (retreat_of (kind_held b k).retreats) s) None
