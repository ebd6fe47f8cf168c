-- A go that is on its way, and where it stops.
use Rattle.std.proofs.Common.{◌≡◌, ℕ, zero, suc, ◌+◌, ◌-◌, ◌≤◌, ◌≢◌, List, [], ◌∷◌, ◌++◌, length, take, drop, sym, refl, ap, ◌∙◌, subst, subst₂, true, false, true≢false, ◌==◌, arith}
use borrow.Rule.Slice.PartMut.{mid_of, put_mid}
use Rattle.protocol.specs.declared.edges.Entry.{Entry}
use Rattle.protocol.proofs.Tests.{equal_numbers, same_number}
use Rattle.device.specs.Ports.{Ports}
use Rattle.machine.specs.declared.report.Outcome.{Outcome}
use Rattle.machine.specs.declared.report.Outcome.TheVariants.{Ran, Cued, Faulted}
use Rattle.machine.specs.declared.report.Reason.{Reason}
use Rattle.machine.specs.declared.report.Reason.TheVariants.{End, Spent, Cue, Failed}
use Rattle.machine.specs.declared.report.Report.{Report}
use Rattle.machine.specs.Dialogue.{Dialogue, Plays, ◌>>=◌}
use Rattle.machine.specs.Player.{Frame, Player, finished, with_frames}
use Rattle.machine.specs.Steps.{step, unwound}
use Rattle.machine.specs.Exits.{fault_exit}
use Rattle.machine.specs.Going.{Stop, after_step, go_on, settled, stop, stop_failed, unless_over}
use Rattle.machine.specs.Calls.{Log, written}
use Rattle.player.specs.Told.{Told, Went}
use Rattle.player.proofs.Coming.{Coming, coming_as, coming_done, coming_none, coming_part, coming_then}

-- What goes on once the blocks that are at their end are left

abbrev onward : ℕ → ℕ → ℕ → Player → Dialogue (Stop × Player)
onward zero steps own q = unless_over steps own q q.frames (stop Spent steps own q)
onward (suc n) steps own q = unless_over steps own q q.frames (step q >>= (λ got. after_step (go_on n) steps own got))

goes_onward : (n steps own : ℕ) (p : Player) → go_on n steps own p ≡ onward n steps own (settled p)
goes_onward zero steps own p = refl
goes_onward (suc n) steps own p = refl

over_at : (steps own : ℕ) (q : Player) (fs : List Frame) (t : Dialogue (Stop × Player)) → length fs ≡ 0 → unless_over steps own q fs t ≡ stop End steps own (finished q)
over_at steps own q [] t e = refl
over_at steps own q (f ∷ fs) t e = absurd (omega (arith, e))

on_at : (steps own : ℕ) (q : Player) (fs : List Frame) (t : Dialogue (Stop × Player)) → length fs ≢ 0 → unless_over steps own q fs t ≡ t
on_at steps own q [] t ne = absurd (ne refl)
on_at steps own q (f ∷ fs) t ne = refl

onward_ends : (n steps own : ℕ) (q : Player) → length q.frames ≡ 0 → onward n steps own q ≡ stop End steps own (finished q)
onward_ends zero steps own q e = over_at steps own q q.frames (stop Spent steps own q) e
onward_ends (suc n) steps own q e = over_at steps own q q.frames (step q >>= (λ got. after_step (go_on n) steps own got)) e

-- So many steps are done and letters sent
pub record Onward (n : ℕ) (p₀ : Player) (g₀ : Ports) (log₀ : Log) (steps letters : ℕ) (p : Player) (g : Ports) (log : Log) : Type 0 where
  pub own : ℕ
  pub coming : Coming (go_on n 0 0 p₀) g₀ log₀ letters (go_on (n - steps) steps own p) g log
  pub within : steps ≤ n
  pub few : letters ≤ steps

pub onward_none : (n : ℕ) (p : Player) (g : Ports) (log : Log) → Onward n p g log 0 0 p g log
onward_none n p g log = record { own = 0; coming = coming_as (let e : n ≡ n - 0 = omega arith in ap (λ m. go_on m 0 0 p) e) (coming_none (go_on n 0 0 p) g log); within = omega arith; few = omega arith }

-- a go that stops
stops : (n : ℕ) (p₀ : Player) {g₀ : Ports} {log₀ : Log} (own : ℕ) (reason : Reason) (steps letters : ℕ) {q : Player} {g : Ports} {log : Log} (r : Report) → r ≡ record { reason = reason; steps = steps; letters = letters } →
    Coming (go_on n 0 0 p₀) g₀ log₀ letters (stop reason steps own q) g log → Went n p₀ g₀ log₀ r q g log
stops n p₀ {g₀} {log₀} own reason steps letters {q} {g} {log} r e b = subst (λ (x : Report). Went n p₀ g₀ log₀ x q g log) (sym e) (own, coming_done b)

module _ {n : ℕ} {p₀ : Player} {g₀ : Ports} {log₀ : Log} {steps letters : ℕ} {p : Player} {g : Ports} {log : Log}
    (o : Onward n p₀ g₀ log₀ steps letters p g log) {fs : List Frame} (left : fs ≡ unwound p.frames) where
  abbrev q : Player
  q = with_frames p fs

  rests : go_on (n - steps) steps o.own p ≡ onward (n - steps) steps o.own q
  rests = goes_onward (n - steps) steps o.own p ∙ ap (λ (v : List Frame). onward (n - steps) steps o.own (with_frames p v)) (sym left)

  pub ends : (length fs == 0) ≡ true → {q' : Player} → q' ≡ finished q → (r : Report) → r ≡ record { reason = End; steps = steps; letters = letters } → Went n p₀ g₀ log₀ r q' g log
  ends none {q'} over r e =
      stops n p₀ o.own End steps letters r e
      (coming_as (rests ∙ onward_ends (n - steps) steps o.own q (same_number (length fs) 0 none) ∙ ap (stop End steps o.own) (sym over)) o.coming)

  module _ (some : (length fs == 0) ≡ false) where
    not_over : (t : Dialogue (Stop × Player)) → unless_over steps o.own q fs t ≡ t
    not_over t = on_at steps o.own q fs t (λ e. true≢false (sym (equal_numbers e) ∙ some))

    pub spends : steps ≡ n → (r : Report) → r ≡ record { reason = Spent; steps = steps; letters = letters } → Went n p₀ g₀ log₀ r q g log
    spends all r e =
        let none : n - steps ≡ 0 = omega (arith, all) in
        stops n p₀ o.own Spent steps letters r e
        (coming_as (rests ∙ ap (λ m. onward m steps o.own q) none ∙ not_over (stop Spent steps o.own q)) o.coming)

    -- a step
    module _ (more : steps ≢ n) {es : List Entry} {x : Outcome} {p' : Player} {g' : Ports} (plays : Plays (step q) g es g' (x, p'))
        {letters' : ℕ} (count : letters' ≡ letters + length es) {log' : Log} (noted : log' ≡ take letters log ++ written es (drop letters log)) where
      follows : Coming (go_on n 0 0 p₀) g₀ log₀ letters' (after_step (go_on (n - (steps + 1))) steps o.own (x, p')) g' log'
      follows =
          let m : n - steps ≡ suc (n - (steps + 1)) = omega (arith, o.within, more) in
          let next : Outcome × Player → Dialogue (Stop × Player) = λ got. after_step (go_on (n - (steps + 1))) steps o.own got in
          subst₂ (λ (j : ℕ) (v : Log). Coming (go_on n 0 0 p₀) g₀ log₀ j (next (x, p')) g' v) (sym count) (sym noted)
          (coming_then next (coming_as (rests ∙ ap (λ j. onward j steps o.own q) m ∙ not_over (step q >>= next)) o.coming) (es, plays, refl, refl))

      pub runs : (k : ℕ) → x ≡ Ran k → letters' ≤ letters + 1 → Onward n p₀ g₀ log₀ (steps + 1) letters' p' g' log'
      runs k e few = record {
        own = o.own + k;
        coming = coming_as (ap (λ y. after_step (go_on (n - (steps + 1))) steps o.own (y, p')) e ∙ (let z : suc steps ≡ steps + 1 = omega arith in ap (λ j. go_on (n - (steps + 1)) j (o.own + k) p') z)) follows;
        within = omega (arith, o.within, more);
        few = omega (arith, o.few, few);
      }

      pub cues : (w : ℕ) → x ≡ Cued w → (r : Report) → r ≡ record { reason = Cue w; steps = steps + 1; letters = letters' } → Went n p₀ g₀ log₀ r p' g' log'
      cues w e r re =
          stops n p₀ o.own (Cue w) (steps + 1) letters' r re
          (coming_as (ap (λ y. after_step (go_on (n - (steps + 1))) steps o.own (y, p')) e ∙ (let z : suc steps ≡ steps + 1 = omega arith in ap (λ j. stop (Cue w) j o.own p') z)) follows)

      pub fails : (c place : ℕ) → x ≡ Faulted c place → {k : ℕ} {q' : Player} {g'' : Ports} {log'' : Log} →
          Told (fault_exit p') g' (mid_of letters' (length log' - letters') log') k q' g'' log'' →
          (r : Report) → r ≡ record { reason = Failed c place; steps = steps + 1; letters = letters' + k } → Went n p₀ g₀ log₀ r q' g'' (put_mid letters' (length log' - letters') log' log'')
      fails c place e {k} d r re =
          stops n p₀ o.own (Failed c place) (steps + 1) (letters' + k) r re
          (coming_part (λ (y : Player). stop (Failed c place) (steps + 1) o.own y)
          (coming_as (ap (λ y. after_step (go_on (n - (steps + 1))) steps o.own (y, p')) e ∙ (let z : suc steps ≡ steps + 1 = omega arith in ap (λ j. stop_failed c place j o.own p') z)) follows) d)
