use Rattle.book.proofs.Held.{looked_up}
use Rattle.book.proofs.book.Book.automaton.Goals as goal

pub returns-clause-known : goal.returns-clause-known
returns-clause-known c =
    let item = rw (c.from.ensures, c.deref.ensures.0) at c.get.ensures.lookup in
    (looked_up _ _ _ _ c.args.self.now.shown item).0

pub returns-clause-shows : goal.returns-clause-shows
returns-clause-shows c =
    let item = rw (c.from.ensures, c.deref.ensures.0) at c.get.ensures.lookup in
    (looked_up _ _ _ _ c.args.self.now.shown item).1
