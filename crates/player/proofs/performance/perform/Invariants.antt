use Rattle.std.proofs.Common.{vec_items}
use Rattle.player.specs.View.{view}
use Rattle.player.proofs.Performing.{RunTo}
use Rattle.player.proofs.performance.perform.Given as goal

abbrev pub invariant-loop-call : goal.invariant-loop-call
invariant-loop-call g l = RunTo g.R.Rig.ports l.fn.rig l.calls l.call-index (vec_items l.show.answers) (vec_items l.show.log) (view l.player) l.rig
