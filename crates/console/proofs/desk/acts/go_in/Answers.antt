use Rattle.std.proofs.Common.{take, drop, arith, ◌++◌, ◌≡◌, List, OnErr, subst}
use Rattle.std.proofs.lemmas.List.{length-take-le, take-append-drop}
use Rattle.protocol.specs.declared.edges.Entry.{Entry}
use Rattle.player.specs.View.{view}
use Rattle.console.proofs.Acting.{went_in, unwritten_go}
use Rattle.console.proofs.desk.acts.go_in.Goals as goal

pub returns-clause-goes : goal.returns-clause-goes
returns-clause-goes g c =
    let log = c.args.log.now in
    let went = c.go.ensures.goes in
    (went.0, take c.args.room log, c.go.new.log, went.1, length-take-le c.args.room log (omega (arith, c.requires)), went_in (view c.args.player.now) (g.R.Rig.ports c.args.rig.now) (take c.args.room log) (view c.go.new.self) (g.R.Rig.ports c.go.new.rig) c.go.new.log (drop c.args.room log) c.args.steps c.go.result went.0 went.1)

pub returns-clause-unwritten : goal.returns-clause-unwritten
returns-clause-unwritten g c =
    let log = c.args.log.now in
    let went = c.go.ensures.goes in
    subst (λ (l : List Entry). OnErr c.go.result (c.go.new.log ++ drop c.args.room log ≡ l)) (take-append-drop c.args.room log)
    (unwritten_go (view c.args.player.now) (g.R.Rig.ports c.args.rig.now) (take c.args.room log) (view c.go.new.self) (g.R.Rig.ports c.go.new.rig) c.go.new.log (drop c.args.room log) c.args.steps c.go.result went.0 went.1)
