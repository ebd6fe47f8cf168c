use Rattle.std.proofs.Common.{◌≡◌, ℕ, ◌<◌, ◌≤◌, pred, Bool, true, false, cond, ◌==◌, slice_index, slice_index_or, List, length, sym, ap, ◌∙◌, subst}
use native.Mathlib.Numerals.{sub-one}
use Rattle.protocol.proofs.Tests.{equal_numbers, other_numbers}
use Rattle.rules.specs.Script as rules
use Rattle.machine.specs.declared.report.Outcome.TheVariants.{Ran}
use Rattle.machine.specs.Player.{Frame, Player, led, with_frames, with_register, with_station}
use Rattle.machine.specs.Steps.{opened}
use Rattle.machine.proofs.Open.{Always}
use Rattle.script.specs.Commands.{said}
use Rattle.script.specs.Pieces.{piece, pieces}
use Rattle.player.specs.Frames.{passed}
use Rattle.player.specs.Loaded.{held}
use Rattle.player.specs.Runs.{runs}
use Rattle.player.specs.Seen.{seen}
use Rattle.player.proofs.Running.{by_name, quiet, spoken}
use Rattle.player.proofs.stage.Stage.run.Goals as goal
use Rattle.player.proofs.stage.Stage.run.Goals.{then-register-eq0, else-register-eq0}

pub returns-in-Set : goal.returns-in-Set
returns-in-Set g c =
    let s : rules.Script = held c.args.loaded.now in
    let p : Player = seen s c.args.self.now in
    let same = c.set_register-in-Set.ensures s ∙ ap (λ (fs : List Frame). with_register (with_frames p fs) c.in-Set.register c.in-Set.value) c.pass-in-Set.ensures in
    by_name p c.args.place c.args.ports (piece c.args.rest) (ap said c.in-Set.is) (quiet _ _ _ c.silent-in-Set.ensures.sent (λ i. (c.silent-in-Set.ensures.outcome i, same i)))

pub returns-in-Cue : goal.returns-in-Cue
returns-in-Cue g c =
    let p : Player = seen (held c.args.loaded.now) c.args.self.now in
    by_name p c.args.place c.args.ports (piece c.args.rest) (ap said c.in-Cue.is)
    (quiet _ _ _ c.silent-in-Cue.ensures.sent (λ i. (c.silent-in-Cue.ensures.outcome i, with_frames p (c.pass-in-Cue.ensures i))))

pub returns-in-Fail : goal.returns-in-Fail
returns-in-Fail g c =
    let p : Player = seen (held c.args.loaded.now) c.args.self.now in
    by_name p c.args.place c.args.ports (piece c.args.rest) (ap said c.in-Fail.is)
    (quiet _ _ _ c.silent-in-Fail.ensures.sent (λ i. (c.silent-in-Fail.ensures.outcome i, with_frames p (c.pass-in-Fail.ensures i))))

pub returns-in-Dec : goal.returns-in-Dec
returns-in-Dec g c =
    let s : rules.Script = held c.args.loaded.now in
    let p : Player = seen s c.args.self.now in
    let less : c.saturating_sub.result ≡ pred (slice_index p.registers c.in-Dec.register) = c.saturating_sub.ensures ∙ sub-one c.register-in-Dec.result ∙ ap pred c.register-in-Dec.ensures in
    let same = c.set_register-in-Dec.ensures s ∙ (λ i. with_register (with_frames p (c.pass-in-Dec.ensures i)) c.in-Dec.register (less i)) in
    by_name p c.args.place c.args.ports (piece c.args.rest) (ap said c.in-Dec.is) (quiet _ _ _ c.silent-in-Dec.ensures.sent (λ i. (c.silent-in-Dec.ensures.outcome i, same i)))

pub returns-in-Run : goal.returns-in-Run
returns-in-Run g c =
    let p : Player = seen (held c.args.loaded.now) c.args.self.now in
    let frames = c.push-in-Run.ensures ∙ (λ i. opened (c.body.ensures i) (c.handed.ensures i) (c.pass-in-Run.ensures i)) in
    by_name p c.args.place c.args.ports (piece c.args.rest) (ap said c.in-Run.is)
    (quiet _ _ _ c.silent-in-Run.ensures.sent (λ i. (c.silent-in-Run.ensures.outcome i, with_frames p (frames i))))

-- a REPEAT goes by a test of its register
chosen : (p : Player) (r : ℕ) (past into : List Frame) {q : Player} (b : Bool) → slice_index p.registers r == 0 ≡ b → q ≡ with_frames p (cond b past into) →
    q ≡ with_frames p (cond (slice_index p.registers r == 0) past into)
chosen p r past into b test same = same ∙ ap (λ t. with_frames p (cond t past into)) (sym test)

pub returns-after-register-eq0 : goal.returns-after-register-eq0
returns-after-register-eq0 g c =
    let s : rules.Script = held c.args.loaded.now in
    let p : Player = seen s c.args.self.now in
    let r : ℕ = c.in-Repeat.register in
    let past : List Frame = passed (piece c.args.rest) p.frames in
    let into : List Frame = opened (piece c.in-Repeat.block) c.args.ports p.frames in
    let same : seen s c.if-register-eq0.self ≡ with_frames p (cond (slice_index p.registers r == 0) past into) =
    elim c.if-register-eq0.branch [
      | then-register-eq0 w ↦ chosen p r past into true (equal_numbers (sym c.register.ensures ∙ w.if-register-eq0.true))
          (ap (seen s) w.self-is ∙ ap (with_frames p) w.pass-then-register-eq0.ensures)
      | else-register-eq0 w ↦ chosen p r past into false (other_numbers (slice_index p.registers r) 0 (λ z. w.if-register-eq0.false (c.register.ensures ∙ z)))
          (ap (seen s) w.self-is ∙ ap (with_frames p) w.push-else-register-eq0.ensures)
    ] in
    by_name p c.args.place c.args.ports (piece c.args.rest) (ap said c.in-Repeat.is) (quiet _ _ _ c.silent.ensures.sent (λ i. (c.silent.ensures.outcome i, same i)))

pub returns-in-Send : goal.returns-in-Send
returns-in-Send g c =
    let s : rules.Script = held c.args.loaded.now in
    let p : Player = seen s c.args.self.now in
    let r : ℕ = c.in-Send.register in
    let l : ℕ = c.in-Send.letter in
    let past : List Frame = passed (piece c.args.rest) p.frames in
    let after : Player → ℕ → ℕ → Player = λ q i a. with_station q i (led q i l a) in
    let same =
    c.set_register.ensures s
    ∙ ap (λ (q : Player). with_register q r c.tell-entry.result.answer) (c.tell-entry.ensures.kept ∙ ap (λ (fs : List Frame). after (with_frames p fs) c.port_of.result c.tell-entry.result.answer) c.pass.ensures) in
    by_name p c.args.place c.args.ports (piece c.args.rest) (ap said c.in-Send.is)
    (spoken (λ i a. (Ran 1, with_frames (with_register (after p i a) r a) past)) c.port_of.result (slice_index c.args.ports c.in-Send.handle) l c.tell-entry.result _ _
    c.port_of.ensures c.tell-entry.ensures.heard c.tell-entry.ensures.entry c.told.ensures.sent (λ i. (c.told.ensures.outcome i, same i)))

pub returns-in-Ask : goal.returns-in-Ask
returns-in-Ask g c =
    let p : Player = seen (held c.args.loaded.now) c.args.self.now in
    let l : ℕ = c.in-Ask.letter in
    let bs : List rules.Block = pieces c.in-Ask.blocks in
    let past : List Frame = passed (piece c.args.rest) p.frames in
    let told = c.tell-entry-in-Ask in
    let after : Player → ℕ → ℕ → Player = λ q i a. with_station q i (led q i l a) in
    let mid = told.ensures.kept ∙ ap (λ (fs : List Frame). after (with_frames p fs) c.port_of-in-Ask.result told.result.answer) c.pass-in-Ask.ensures in
    let same = ap (with_frames (seen (held c.args.loaded.now) told.new.self)) c.push.ensures ∙ (λ i. with_frames (mid i) (opened (c.block.ensures i) c.args.ports (mid i).frames)) in
    by_name p c.args.place c.args.ports (piece c.args.rest) (ap said c.in-Ask.is)
    (spoken (λ i a. (Ran 1, with_frames (after p i a) (opened (slice_index_or bs a rules.no_block) c.args.ports past))) c.port_of-in-Ask.result (slice_index c.args.ports c.in-Ask.handle) l told.result _ _
    c.port_of-in-Ask.ensures told.ensures.heard told.ensures.entry c.told-in-Ask.ensures.sent (λ i. (c.told-in-Ask.ensures.outcome i, same i)))

pub push-requires : goal.push-requires
push-requires g c =
    let s : rules.Script = held c.args.loaded.now in
    let p : Player = seen s c.args.self.now in
    let rest : rules.Block = piece c.args.rest in
    let few = subst (λ (k : rules.Command). Always (λ v. length v.1.frames ≤ 128) (runs p c.args.place c.args.ports rest k)) (ap said c.in-Ask.is) c.requires.few c.tell-entry-in-Ask.result.answer in
    let room : length (passed rest p.frames) < 128 = few in
    subst (λ (fs : List Frame). length fs < 128) (sym (ap (λ (q : Player). q.frames) c.tell-entry-in-Ask.ensures.kept ∙ c.pass-in-Ask.ensures)) room
