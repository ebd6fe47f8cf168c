use Rattle.book.proofs.laws.book_decides.Goals as goal
use Rattle.book.proofs.Passing.{decides}

pub returns : goal.returns
returns c = decides
