use Rattle.book.proofs.laws.retreats_lead_home.Goals as goal
use Rattle.book.proofs.Home.{leads_home}

pub returns : goal.returns
returns c = leads_home
