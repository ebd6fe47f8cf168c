-- One step: the first command of the topmost open block.
use Rattle.std.specs.Prelude.{ℕ, pred, cond, List, [], ◌∷◌, map, get_or, ◌==◌, slice_index, slice_index_or}
use Rattle.rules.specs.Script.{Block, no_block, Command, send, ask, repeat, run, store, dec, cue, fail, Read, nothing, broken, command, first, Part, no_part}
use Rattle.machine.specs.declared.report.Outcome.{Outcome}
use Rattle.machine.specs.declared.report.Outcome.TheVariants.{Ran, Cued, Faulted}
use Rattle.machine.specs.Dialogue.{Dialogue, done, ◌>>=◌}
use Rattle.machine.specs.Player.{Frame, Player, with_frames, with_register, tell}

-- blocks that are at their end are left
abbrev pub unwound : List Frame → List Frame
unwound [] = []
unwound (f ∷ fs) = elim f.block.bytes [ [] ↦ unwound fs | b ∷ bs ↦ f ∷ fs ]

abbrev pub opened : Block → List ℕ → List Frame → List Frame
opened b ports fs = record { block = b; ports = ports } ∷ fs

-- One command at the place: the ports of the handles there, the frames where it stays, and those where it is passed.
-- A REPEAT stays below its block, so that the block's end comes back to it.
abbrev pub run_command : Player → ℕ → List ℕ → List Frame → List Frame → Command → Dialogue (Outcome × Player)
run_command p at ports stay past (send h l r) = do
  got ← tell p (slice_index ports h) l
  done (Ran 1, with_frames (with_register got.1 r got.0) past)
run_command p at ports stay past (ask h l bs) = do
  got ← tell p (slice_index ports h) l
  done (Ran 1, with_frames got.1 (opened (slice_index_or bs got.0 no_block) ports past))
run_command p at ports stay past (repeat r b) =
    done (Ran 0, with_frames p (cond (slice_index p.registers r == 0) past (opened b ports stay)))
run_command p at ports stay past (run q bs) =
    let part : Part = get_or p.script.parts q no_part in
    done (Ran 0, with_frames p (opened part.body (map (λ b. get_or ports b 255) bs) past))
run_command p at ports stay past (store r v) = done (Ran 0, with_frames (with_register p r v) past)
run_command p at ports stay past (dec r) = done (Ran 0, with_frames (with_register p r (pred (slice_index p.registers r))) past)
run_command p at ports stay past (cue n) = done (Cued n, with_frames p past)
run_command p at ports stay past (fail c) = done (Faulted c at, with_frames p past)

-- by what the topmost block begins with; one that cannot be read ends all, which no passed script has
abbrev pub run_first : Player → Frame → List Frame → Read → Dialogue (Outcome × Player)
run_first p f fs nothing = done (Ran 0, with_frames p [])
run_first p f fs broken = done (Ran 0, with_frames p [])
run_first p f fs (command c rest) = run_command p f.block.place f.ports (f ∷ fs) (opened rest f.ports fs) c

abbrev pub step_from : Player → List Frame → Dialogue (Outcome × Player)
step_from p [] = done (Ran 0, p)
step_from p (f ∷ fs) = run_first p f fs (first f.block)

abbrev pub step : Player → Dialogue (Outcome × Player)
step p = step_from p p.frames
