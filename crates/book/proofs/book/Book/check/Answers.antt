use Rattle.book.proofs.Home.{leads_home}
use Rattle.book.proofs.Passing.{decides}
use Rattle.book.proofs.book.Book.check.Goals as goal

pub returns-in_err-read-clause-decides : goal.returns-in_err-read-clause-decides
returns-in_err-read-clause-decides c = decides

pub returns-in_err-read-clause-home : goal.returns-in_err-read-clause-home
returns-in_err-read-clause-home c = leads_home

pub returns-clause-decides : goal.returns-clause-decides
returns-clause-decides c = decides

pub returns-clause-home : goal.returns-clause-home
returns-clause-home c = leads_home
