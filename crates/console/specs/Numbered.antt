-- A line in memory with its number.
use Rattle.console.specs.declared.session.Numbered as session
use Rattle.console.specs.Lines.{Numbered}
use Rattle.console.specs.Views.{view}

abbrev pub numbered : session.Numbered → Numbered
numbered n = record { number = n.number; line = view n.line }
