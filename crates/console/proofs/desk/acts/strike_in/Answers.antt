use Rattle.std.proofs.Common.{take, drop, arith, ◌++◌, ◌≡◌, List, OnErr, subst}
use Rattle.std.proofs.lemmas.List.{length-take-le, take-append-drop}
use Rattle.protocol.specs.declared.edges.Entry.{Entry}
use Rattle.player.specs.View.{view}
use Rattle.console.proofs.Acting.{struck_in, unwritten_strike}
use Rattle.console.proofs.desk.acts.strike_in.Goals as goal

pub returns-clause-strikes : goal.returns-clause-strikes
returns-clause-strikes g c =
    let log = c.args.log.now in
    (take c.args.room log, c.strike.new.log, c.strike.ensures.strikes, length-take-le c.args.room log (omega (arith, c.requires)), struck_in (view c.args.player.now) (g.R.Rig.ports c.args.rig.now) (take c.args.room log) (view c.strike.new.self) (g.R.Rig.ports c.strike.new.rig) c.strike.new.log (drop c.args.room log) c.strike.result c.strike.ensures.strikes)

pub returns-clause-unwritten : goal.returns-clause-unwritten
returns-clause-unwritten g c =
    let log = c.args.log.now in
    subst (λ (l : List Entry). OnErr c.strike.result (c.strike.new.log ++ drop c.args.room log ≡ l)) (take-append-drop c.args.room log)
    (unwritten_strike (view c.args.player.now) (g.R.Rig.ports c.args.rig.now) (take c.args.room log) (view c.strike.new.self) (g.R.Rig.ports c.strike.new.rig) c.strike.new.log (drop c.args.room log) c.strike.result c.strike.ensures.strikes)
