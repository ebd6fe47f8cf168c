use Rattle.std.proofs.Common.{map, vec_items, subst, arith}
use Rattle.std.proofs.lemmas.List.{take_all}
use Rattle.player.specs.Performing.{request}
use Rattle.player.specs.View.{view}
use Rattle.player.proofs.Performing.{RunAt, run_starts, run_goes_on, run_stops, run_kept}
use Rattle.player.proofs.performance.perform.Goals as goal

pub loop-call-init : goal.loop-call-init
loop-call-init g c = run_starts g.R.Rig.ports c.args.rig.now (vec_items c.new.result) (vec_items c.new-2.result) _ c.new.ensures.items c.new-2.ensures.items c.new-player.ensures.new

pub returns-in-Err : goal.returns-in-Err
returns-in-Err g c =
    let rig = c.args.rig.now in
    let kept = c.in-Err.ensures.kept in
    run_kept g.R.Rig.ports rig _ _ _ (view c.make.new.player) c.make.new.rig
    (run_stops g.R.Rig.ports rig c.args.calls.now c.loop-call.call-index _ _ _ _ c.loop-call.invariant _ _ _ _ (omega (arith, c.loop-call-test.true)) kept.0 kept.1 kept.2 kept.3)
    (g.met.R.Rig.lawful rig) (g.met.R.Rig.some rig) (g.met.R.Rig.few rig)

pub loop-call-preserved : goal.loop-call-preserved
loop-call-preserved g c =
    let made = c.in_default.ensures.made in
    run_goes_on g.R.Rig.ports c.args.rig.now c.args.calls.now c.loop-call.call-index _ _ _ _ c.loop-call.invariant _ _ _ _
    c.call-item.result made.0 made.1 c.loop-call-test.true c.call-item.is made.2 made.3 made.4 made.5

pub returns : goal.returns
returns g c =
    let rig = c.args.rig.now in
    let show = c.loop-call.show in
    let all = take_all c.loop-call.call-index c.args.calls.now (omega (arith, c.loop-call-test.false)) in
    run_kept g.R.Rig.ports rig _ _ _ (view c.loop-call.player) c.loop-call.rig
    (subst (λ cs. RunAt g.R.Rig.ports rig (map request cs) (vec_items show.answers) (vec_items show.log) (view c.loop-call.player) c.loop-call.rig) all c.loop-call.invariant)
    (g.met.R.Rig.lawful rig) (g.met.R.Rig.some rig) (g.met.R.Rig.few rig)
