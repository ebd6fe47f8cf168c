use Rattle.std.proofs.Common.{length}
use Rattle.script.proofs.keys.+distinct.Given as goal

abbrev pub decreases-distinct : goal.decreases-distinct
decreases-distinct l = length l.bound.now
