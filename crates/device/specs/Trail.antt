-- The last pairs of letter and answer, oldest first.
use Rattle.std.specs.Prelude.{List}
use Rattle.device.specs.declared.ring.Pair.{Pair}
use Rattle.device.specs.declared.trail.Trail.{Trail}

abbrev pub trail_of : {D : Type 0} → Trail D → List Pair
trail_of t = t.ring
