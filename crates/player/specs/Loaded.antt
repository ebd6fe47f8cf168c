-- A script that is ready to be played.
use Rattle.std.specs.Prelude.{ℕ, Some, None}
use Rattle.book.specs.Kinds.{Kind, retreat_of}
use Rattle.rules.specs.Script as rules
use Rattle.script.specs.Held.{script_held}
use Rattle.player.specs.declared.loaded.Loaded.{Loaded}

abbrev pub held : Loaded → rules.Script
held l = script_held l.script

-- the retreat letter of a station
abbrev pub homeward : Kind → ℕ → ℕ
homeward k s = elim (retreat_of k.retreats s) [ Some r ↦ r.letter | None ↦ 0 ]
