use Rattle.std.proofs.Common.{sym, ap, ◌∙◌}
use Rattle.machine.specs.Player.{Player}
use Rattle.player.specs.Frames.{frames_of}
use Rattle.player.specs.Loaded.{held}
use Rattle.player.proofs.Leaving.{all_left, ended_left}
use Rattle.player.proofs.Onward.{cues, ends, fails, onward_none, runs, spends}
use Rattle.player.proofs.stage.Stage.go_on.Goals as goal

pub loop-self-init : goal.loop-self-init
loop-self-init g c = record { onward = onward_none c.args.n _ _ _; room = c.requires.room }

pub returns-then-is_empty-clause-went : goal.returns-then-is_empty-clause-went
returns-then-is_empty-clause-went g c =
    ends c.loop-self.invariant.onward c.unwind.ensures (sym c.is_empty.ensures ∙ c.if-is_empty.true) (c.finish.ensures (held c.args.loaded.now)) c.report.result c.report.ensures

pub returns-then-is_empty-clause-room : goal.returns-then-is_empty-clause-room
returns-then-is_empty-clause-room g c =
    let s = held c.args.loaded.now in
    all_left s (ap (λ (p : Player). p.frames) (c.finish.ensures s))

pub returns-then-steps-n-clause-went : goal.returns-then-steps-n-clause-went
returns-then-steps-n-clause-went g c =
    spends c.loop-self.invariant.onward c.unwind.ensures (sym c.is_empty.ensures ∙ c.if-is_empty.false) c.if-steps-n.true c.report-then-steps-n.result c.report-then-steps-n.ensures

pub returns-then-steps-n-clause-room : goal.returns-then-steps-n-clause-room
returns-then-steps-n-clause-room g c = ended_left (held c.args.loaded.now) _ c.loop-self.invariant.room c.unwind.ensures

pub step-step-requires : goal.step-step-requires
step-step-requires g c = record { room = ended_left (held c.args.loaded.now) (frames_of c.loop-self.self.open) c.loop-self.invariant.room c.unwind.ensures }

pub loop-self-preserved : goal.loop-self-preserved
loop-self-preserved g c = record {
  onward = runs c.loop-self.invariant.onward c.unwind.ensures (sym c.is_empty.ensures ∙ c.if-is_empty.false) c.if-steps-n.false c.step-step.ensures.plays
      c.note-letters.ensures.count c.note-letters.ensures.noted c.in-Ran.field-0 c.in-Ran.is c.note-letters.ensures.few;
  room = c.step-step.ensures.room;
}

pub returns-in-Cued-clause-went : goal.returns-in-Cued-clause-went
returns-in-Cued-clause-went g c =
    cues c.loop-self.invariant.onward c.unwind.ensures (sym c.is_empty.ensures ∙ c.if-is_empty.false) c.if-steps-n.false c.step-step.ensures.plays
    c.note-letters.ensures.count c.note-letters.ensures.noted c.in-Cued.number c.in-Cued.is c.report-in-Cued.result c.report-in-Cued.ensures

pub returns-in-Faulted-clause-went : goal.returns-in-Faulted-clause-went
returns-in-Faulted-clause-went g c =
    fails c.loop-self.invariant.onward c.unwind.ensures (sym c.is_empty.ensures ∙ c.if-is_empty.false) c.if-steps-n.false c.step-step.ensures.plays
    c.note-letters.ensures.count c.note-letters.ensures.noted c.in-Faulted.code c.in-Faulted.place c.in-Faulted.is c.fault_exit-letters.ensures.told
    c.report-in-Faulted.result c.report-in-Faulted.ensures
