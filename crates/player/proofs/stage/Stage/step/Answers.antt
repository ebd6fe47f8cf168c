use Rattle.machine.specs.Player.{Player}
use Rattle.script.specs.Commands.{said}
use Rattle.script.specs.Pieces.{piece}
use Rattle.player.specs.Frames.{frame_of}
use Rattle.player.specs.Loaded.{held}
use Rattle.player.specs.Seen.{seen}
use Rattle.player.proofs.Rooms.{held_so}
use Rattle.player.proofs.Stepping.{at_once, runs_few, runs_room, runs_step, step_broken, step_nothing, step_over}
use Rattle.player.proofs.stage.Stage.step.Goals as goal

pub returns-in_default-clause-plays : goal.returns-in_default-clause-plays
returns-in_default-clause-plays g c =
    let p : Player = seen (held c.args.loaded.now) c.args.self.now in
    at_once p _ _ _ (step_over p c.in_default.ensures) c.silent.ensures.sent (λ i. (c.silent.ensures.outcome i, p))

pub returns-in_default-first-clause-plays : goal.returns-in_default-first-clause-plays
returns-in_default-first-clause-plays g c =
    let p : Player = seen (held c.args.loaded.now) c.args.self.now in
    let stuck = c.stuck.ensures in
    at_once p _ _ _ (step_nothing p (frame_of c.in-Some.top) c.in-Some.ensures c.in_default-first.ensures) stuck.sent (λ i. (stuck.outcome i, stuck.empty (held c.args.loaded.now) i))

pub returns-in_default-first-2-clause-plays : goal.returns-in_default-first-2-clause-plays
returns-in_default-first-2-clause-plays g c =
    let p : Player = seen (held c.args.loaded.now) c.args.self.now in
    let stuck = c.stuck-in_default-first-2.ensures in
    let reads = rw c.in_default-first-2.is at c.in-Some-first.ensures in
    at_once p _ _ _ (step_broken p (frame_of c.in-Some.top) c.in-Some.ensures reads.0) stuck.sent (λ i. (stuck.outcome i, stuck.empty (held c.args.loaded.now) i))

pub run-requires : goal.run-requires
run-requires g c = record {
  few = runs_few (seen (held c.args.loaded.now) c.args.self.now) (frame_of c.in-Some.top) (piece c.in-Ok.rest) (said c.in-Ok.command) (held_so c.args.loaded.now) c.in-Some.ensures
      (rw c.in-Ok.is at c.in-Some-first.ensures) c.requires.room;
}

pub returns-clause-plays : goal.returns-clause-plays
returns-clause-plays g c =
    runs_step (seen (held c.args.loaded.now) c.args.self.now) (frame_of c.in-Some.top) (piece c.in-Ok.rest) (said c.in-Ok.command) (held_so c.args.loaded.now) c.in-Some.ensures
    (rw c.in-Ok.is at c.in-Some-first.ensures) c.requires.room c.run.ensures

pub returns-clause-room : goal.returns-clause-room
returns-clause-room g c =
    runs_room (seen (held c.args.loaded.now) c.args.self.now) (frame_of c.in-Some.top) (piece c.in-Ok.rest) (said c.in-Ok.command) (held_so c.args.loaded.now) c.in-Some.ensures
    (rw c.in-Ok.is at c.in-Some-first.ensures) c.requires.room c.run.ensures
