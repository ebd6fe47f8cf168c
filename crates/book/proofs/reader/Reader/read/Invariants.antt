use Rattle.std.proofs.Common.{length}
use Rattle.book.proofs.Books.{Left}
use Rattle.book.proofs.reader.Reader.read.Given as goal

abbrev pub invariant-loop-rest : goal.invariant-loop-rest
invariant-loop-rest l = Left l.bytes l.self l.rest

abbrev pub decreases-loop-rest : goal.decreases-loop-rest
decreases-loop-rest l = length l.rest
