-- Going: step after step, until nothing is left, the steps are spent, or a command stops it.
use Rattle.std.specs.Prelude.{◌≡◌, ℕ, zero, suc, ◌+◌, List, [], ◌∷◌, map, Some}
use Rattle.protocol.specs.declared.edges.Entry.{Entry}
use Rattle.device.specs.Ports.{Ports}
use Rattle.machine.specs.declared.report.Outcome.{Outcome}
use Rattle.machine.specs.declared.report.Outcome.TheVariants.{Ran, Cued, Faulted}
use Rattle.machine.specs.declared.report.Reason.{Reason}
use Rattle.machine.specs.declared.report.Reason.TheVariants.{End, Spent, Cue, Failed}
use Rattle.machine.specs.Dialogue.{Dialogue, done, ◌>>=◌, Plays, play}
use Rattle.machine.specs.Player.{Frame, Player, with_frames, finished}
use Rattle.machine.specs.Steps.{unwound, step}
use Rattle.machine.specs.Exits.{fault_exit}

-- why it stopped, the steps done, and the letters of its SENDs and ASKs, which are its own, unlike those of a fault exit
pub record Stop : Type 0 where
  pub reason : Reason
  pub steps : ℕ
  pub own : ℕ

abbrev pub stop : Reason → ℕ → ℕ → Player → Dialogue (Stop × Player)
stop r steps own p = done (record { reason = r; steps = steps; own = own }, p)

abbrev pub stop_failed : ℕ → ℕ → ℕ → ℕ → Player → Dialogue (Stop × Player)
stop_failed c place steps own p = fault_exit p >>= (λ q. stop (Failed c place) steps own q)

-- without the blocks that are at their end
abbrev pub settled : Player → Player
settled p = with_frames p (unwound p.frames)

-- what goes on from a player, after so many steps and letters
abbrev pub Goer : Type 0
Goer = ℕ → ℕ → Player → Dialogue (Stop × Player)

-- what follows a step
abbrev pub after_step : Goer → ℕ → ℕ → Outcome × Player → Dialogue (Stop × Player)
after_step next steps own (Ran k, p) = next (suc steps) (own + k) p
after_step next steps own (Cued w, p) = stop (Cue w) (suc steps) own p
after_step next steps own (Faulted c place, p) = stop_failed c place (suc steps) own p

-- over where nothing is left, else by the last argument
abbrev pub unless_over : ℕ → ℕ → Player → List Frame → Dialogue (Stop × Player) → Dialogue (Stop × Player)
unless_over steps own p [] t = stop End steps own (finished p)
unless_over steps own p (f ∷ fs) t = t

-- at most as many steps as the first number, after those steps and letters
abbrev pub go_on : ℕ → Goer
go_on zero steps own p = unless_over steps own (settled p) (unwound p.frames) (stop Spent steps own (settled p))
go_on (suc n) steps own p =
    unless_over steps own (settled p) (unwound p.frames) (step (settled p) >>= (λ got. after_step (go_on n) steps own got))

-- What a go comes to is settled by the answers: whatever the devices choose, it is what `play` gives for what they chose.
abbrev pub AnswersSettle : Type 0
AnswersSettle = (n : ℕ) (p : Player) (g g' : Ports) (es : List Entry) (v : Stop × Player) → Plays (go_on n 0 0 p) g es g' v →
    play (go_on n 0 0 p) g (map (λ e. e.answer) es) ≡ Some (record { value = v; rig = g'; entries = es })
