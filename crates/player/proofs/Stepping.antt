-- A step is the topmost block's first command, and leaves room for the next.
use Rattle.std.proofs.Common.{◌≡◌, ◌≤◌, List, [], ◌∷◌, Some, None, Option, length, refl, sym, ap, ◌∙◌, subst}
use Rattle.std.proofs.Math.Logic.{∥∥₁_elim, ∥∥₁_map}
use Rattle.std.specs.List.{slice_get}
use Rattle.std.specs.Option.{option_to_list}
use mathlib.Core.HLevel.{Π_prop}
use native.Mathlib.Bridge.{le_prop}
use Rattle.protocol.specs.declared.edges.Entry.{Entry}
use Rattle.device.specs.Ports.{Ports}
use Rattle.rules.specs.Script as rules
use Rattle.rules.specs.Script.{Block, Command, Read, broken, command, first, nothing}
use Rattle.rules.proofs.Scripts.{ScriptSo}
use Rattle.machine.specs.declared.report.Outcome.TheVariants.{Ran}
use Rattle.machine.specs.Dialogue.{Dialogue, Plays, done, ended, tells, told}
use Rattle.machine.specs.Player.{Frame, Player, with_frames}
use Rattle.machine.specs.Steps.{opened, run_command, run_first, step, step_from}
use Rattle.machine.proofs.Open.{Always, Open, open_few, opens}
use Rattle.player.specs.Frames.{passed}
use Rattle.player.specs.Runs.{runs}
use Rattle.player.proofs.Running.{Ending, quiet}

-- Whatever the answers

always_prop : {X : Type 0} (P : X → Type 0) → ((x : X) → IsProp (P x)) → (t : Dialogue X) → IsProp (Always P t)
always_prop P prop (done x) = prop x
always_prop P prop (tells i l k) = Π_prop (λ a. always_prop P prop (k a))

always_map : {X : Type 0} (P Q : X → Type 0) → ((x : X) → P x → Q x) → (t : Dialogue X) → Always P t → Always Q t
always_map P Q f (done x) h = f x h
always_map P Q f (tells i l k) h = λ a. always_map P Q f (k a) (h a)

comes : {X : Type 0} (P : X → Type 0) {t : Dialogue X} {g : Ports} {es : List Entry} {g' : Ports} {x : X} → Always P t → Plays t g es g' x → P x
comes P h (ended x g) = h
comes P h (told p l a k g g' g'' es x heard r) = comes P (h a) r

-- The topmost block begins with a command

abbrev Kept : rules.Script → Ending → Type 0
Kept s v = (v.1.script ≡ s) × Open s v.1.frames

abbrev Few : Ending → Type 0
Few v = length v.1.frames ≤ 128

module _ (p : Player) (f : Frame) where
  module _ (rest : Block) (c : Command) where
    opens_from : (fs : List Frame) → ScriptSo p.script → Some f ≡ slice_get fs 0 → first f.block ≡ command c rest → Open p.script fs →
        Always (Kept p.script) (run_command p f.block.place f.ports fs (passed rest fs) c)
    opens_from [] so top e o = cc
    opens_from (d ∷ fs) so top e o =
        let same : f ≡ d = cc in
        subst (λ (v : Frame). Always (Kept p.script) (run_command p v.block.place v.ports (d ∷ fs) (opened rest d.ports fs) c)) (sym same)
        (opens p so d fs o rest c (subst (λ (v : Frame). first v.block ≡ command c rest) same e))

    runs_from : (fs : List Frame) → Some f ≡ slice_get fs 0 → first f.block ≡ command c rest → step_from p fs ≡ run_command p f.block.place f.ports fs (passed rest fs) c
    runs_from [] top e = cc
    runs_from (d ∷ fs) top e =
        let same : f ≡ d = cc in
        subst (λ (v : Frame). step_from p (d ∷ fs) ≡ run_command p v.block.place v.ports (d ∷ fs) (opened rest d.ports fs) c) (sym same)
        (ap (run_first p d fs) (subst (λ (v : Frame). first v.block ≡ command c rest) same e))

    module _ (so : ScriptSo p.script) (top : Some f ≡ slice_get p.frames 0) (begins : first f.block ≡ command c rest) (room : ∥ Open p.script p.frames ∥₁) where
      pub runs_few : Always Few (runs p f.block.place f.ports rest c)
      runs_few = ∥∥₁_elim room (always_prop Few (λ v. le_prop) (runs p f.block.place f.ports rest c))
          (λ o. always_map (Kept p.script) Few (λ v k. open_few p.script v.1.frames so k.1) (runs p f.block.place f.ports rest c) (opens_from p.frames so top begins o))

      module _ {g : Ports} {es : List Entry} {g' : Ports} {x : Ending} (h : Plays (runs p f.block.place f.ports rest c) g es g' x) where
        pub runs_room : ∥ Open p.script x.1.frames ∥₁
        runs_room = ∥∥₁_map room (λ o. (comes (Kept p.script) (opens_from p.frames so top begins o) h).1)

        pub runs_step : Plays (step p) g es g' x
        runs_step = subst (λ (t : Dialogue Ending). Plays t g es g' x) (sym (runs_from p.frames top begins)) h

  -- it begins with none
  stuck_from : (fs : List Frame) (r : Read) → Some f ≡ slice_get fs 0 → first f.block ≡ r → ((d : Frame) (ds : List Frame) → run_first p d ds r ≡ done (Ran 0, with_frames p [])) →
      step_from p fs ≡ done (Ran 0, with_frames p [])
  stuck_from [] r top e ends = cc
  stuck_from (d ∷ fs) r top e ends =
      let same : f ≡ d = cc in
      ap (run_first p d fs) (subst (λ (v : Frame). first v.block ≡ r) same e) ∙ ends d fs

  pub step_nothing : Some f ≡ slice_get p.frames 0 → first f.block ≡ nothing → step p ≡ done (Ran 0, with_frames p [])
  step_nothing top e = stuck_from p.frames nothing top e (λ d ds. refl)

  pub step_broken : Some f ≡ slice_get p.frames 0 → first f.block ≡ broken → step p ≡ done (Ran 0, with_frames p [])
  step_broken top e = stuck_from p.frames broken top e (λ d ds. refl)

-- no block is open
over_from : (p : Player) (fs : List Frame) → None ≡ slice_get fs 0 → step_from p fs ≡ done (Ran 0, p)
over_from p [] e = refl
over_from p (f ∷ fs) e = cc

pub step_over : (p : Player) → None ≡ slice_get p.frames 0 → step p ≡ done (Ran 0, p)
step_over p e = over_from p p.frames e

-- a step that is over at once
pub at_once : (p : Player) (x y : Ending) (s : Option Entry) {g : Ports} → step p ≡ done y → s ≡ None → x ≡ y → Plays (step p) g (option_to_list s) g x
at_once p x y s {g} ends silent same = subst (λ (t : Dialogue Ending). Plays t g (option_to_list s) g x) (sym ends) (quiet x y s silent same)
