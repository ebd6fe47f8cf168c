-- A go from a typed stack: where it stops, and what it leaves.
use Rattle.std.proofs.Common.{◌≡◌, ℕ, zero, suc, ◌+◌, true, false, ◌⊎◌, List, [], ◌∷◌, ◌++◌, length, sym, refl, ap, ◌∙◌, subst, inl, inr, true≢false, append_assoc, append-nil, arith, length-append}
use Rattle.protocol.specs.declared.edges.Entry.{Entry}
use Rattle.device.specs.Ports.{Ports}
use Rattle.rules.specs.Script.{Read, broken, command, first, nothing}
use Rattle.rules.proofs.Derived.{not_broken}
use Rattle.rules.proofs.Reading.{some_first}
use Rattle.rules.proofs.Scripts.{ScriptSo, scope_at}
use Rattle.machine.specs.declared.report.Outcome.{Outcome}
use Rattle.machine.specs.declared.report.Outcome.TheVariants.{Cued, Faulted, Ran}
use Rattle.machine.specs.declared.report.Reason.{Reason}
use Rattle.machine.specs.declared.report.Reason.TheVariants.{Cue, End, Failed, Spent}
use Rattle.machine.specs.Dialogue.{Plays, ◌>>=◌}
use Rattle.machine.specs.Player.{Frame, Player, finished, kept, with_frames}
use Rattle.machine.specs.Steps.{opened, run_command, run_first, step_from, unwound}
use Rattle.machine.specs.Exits.{fault_exit}
use Rattle.machine.specs.Going.{Stop, after_step, go_on, settled, stop, stop_failed, unless_over}
use Rattle.machine.specs.Runs.{is_final}
use Rattle.machine.specs.Promise.{AllAway, ShortExit}
use Rattle.machine.proofs.Dialogues.{split}
use Rattle.machine.proofs.Telling.{Playing, done_ends}
use Rattle.machine.proofs.Exits.{Resting, rests, Gone, exits}
use Rattle.machine.proofs.Typed.{Stack, unwinds}
use Rattle.machine.proofs.Steps.{steps_sure}
use Rattle.machine.proofs.Moves.{Stepped, command_plays, letters_of}

-- begun, with open blocks that the key rules type
pub record Begun (g : Ports) (js : List Entry) (p : Player) (g₁ : Ports) : Type 0 where
  pub going : p.over ≡ false
  pub script : ScriptSo p.script
  pub playing : Playing g js p.script p.stations g₁
  pub stack : Stack p.script p.frames p.stations

abbrev pub SceneSo : Ports → List Entry → Player → Ports → Type 0
SceneSo g js p g₁ = Resting g js p g₁ ⊎ Begun g js p g₁

-- the letters of commands, and those of a fault exit after them
pub record Went (g : Ports) (js : List Entry) (own : ℕ) (es : List Entry) (g₂ : Ports) (v : Stop × Player) : Type 0 where
  pub before : List Entry
  pub behind : List Entry
  pub cut : es ≡ before ++ behind
  pub count : v.0.own ≡ own + length before
  pub short : ShortExit (js ++ before) behind
  pub scene : SceneSo g (js ++ es) v.1 g₂
  pub home : is_final v.0.reason ≡ true → AllAway g₂

-- a stop without a letter
halts : (g : Ports) (js : List Entry) (own steps : ℕ) (r : Reason) (p : Player) (g₁ : Ports) → SceneSo g js p g₁ → (is_final r ≡ true → AllAway g₁) →
    Went g js own [] g₁ (record { reason = r; steps = steps; own = own }, p)
halts g js own steps r p g₁ sc home = record {
  before = [];
  behind = [];
  cut = refl;
  count = omega arith;
  short = λ i. (omega arith, λ e. refl);
  scene = subst (λ (x : List Entry). SceneSo g x p g₁) (sym (append-nil js)) sc;
  home = home;
}

-- the letters of a command before
went_more : (g : Ports) (js : List Entry) (own k : ℕ) (es es₁ es₂ : List Entry) (g₂ : Ports) (v : Stop × Player) → es ≡ es₁ ++ es₂ → length es₁ ≡ k →
    Went g (js ++ es₁) (own + k) es₂ g₂ v → Went g js own es g₂ v
went_more g js own k es es₁ es₂ g₂ v cut len w = record {
  before = es₁ ++ w.before;
  behind = w.behind;
  cut = cut ∙ ap (λ (x : List Entry). es₁ ++ x) w.cut ∙ sym (append_assoc es₁ w.before w.behind);
  count = omega (arith, w.count, len, length-append es₁ w.before);
  short = subst (λ (x : List Entry). ShortExit x w.behind) (append_assoc js es₁ w.before) w.short;
  scene = subst (λ (x : List Entry). SceneSo g x v.1 g₂) (append_assoc js es₁ es₂ ∙ ap (λ (x : List Entry). js ++ x) (sym cut)) w.scene;
  home = w.home;
}

fails_away : (g : Ports) (js : List Entry) (p : Player) (g₁ : Ports) (c place steps own : ℕ) (es : List Entry) (g₂ : Ports) (v : Stop × Player) →
    Playing g js p.script p.stations g₁ → Plays (stop_failed c place steps own p) g₁ es g₂ v → Went g js own es g₂ v
fails_away g js p g₁ c place steps own es g₂ v pl h =
    let w = split (fault_exit p) (λ q. stop (Failed c place) steps own q) g₁ es g₂ v h in
    let d : Gone g js w.0 w.1 w.2 = exits g js p g₁ w.2 w.1 w.0 pl w.4 in
    subst (λ (x : List Entry). Went g js own x g₂ v) (sym w.6)
    (done_ends (λ (x : List Entry) (y : Ports) (z : Stop × Player). Went g js own (w.2 ++ x) y z) _ w.1 w.3 g₂ v w.5 (record {
      before = [];
      behind = w.2;
      cut = append-nil w.2;
      count = omega arith;
      short = subst (λ (x : List Entry). ShortExit x w.2) (sym (append-nil js)) d.1;
      scene = subst (λ (x : List Entry). SceneSo g (js ++ x) w.0 w.1) (sym (append-nil w.2)) (inl d.0);
      home = λ e. d.0.home;
    }))

-- a player whose main is at its end
ends_away : (g : Ports) (js : List Entry) (p : Player) (g₁ : Ports) (steps own : ℕ) → Begun g js p g₁ → ((i : ℕ) → kept p i ≡ 0) →
    Went g js own [] g₁ (record { reason = End; steps = steps; own = own }, finished p)
ends_away g js p g₁ steps own b z =
    let r : Resting g js (finished p) g₁ = rests g js (finished p) p g₁ b.playing z refl in
    halts g js own steps End (finished p) g₁ (inl r) (λ e. r.home)

reframed : (g : Ports) (js : List Entry) (p : Player) (g₁ : Ports) (fs : List Frame) → Begun g js p g₁ → Stack p.script fs p.stations → Begun g js (with_frames p fs) g₁
reframed g js p g₁ fs b w = record { going = b.going; script = b.script; playing = b.playing; stack = w }

-- what is shown for n steps
abbrev pub GoesWell : ℕ → Type 0
GoesWell n = (g : Ports) (js : List Entry) (p : Player) (g₁ : Ports) (steps own : ℕ) (es : List Entry) (g₂ : Ports) (v : Stop × Player) → Begun g js p g₁ →
    Plays (go_on n steps own p) g₁ es g₂ v → Went g js own es g₂ v

stops_out : (g : Ports) (js : List Entry) (p : Player) (g₁ : Ports) (steps own : ℕ) (es : List Entry) (g₂ : Ports) (v : Stop × Player) → Begun g js p g₁ →
    (fs : List Frame) → Stack p.script fs p.stations → Plays (unless_over steps own p fs (stop Spent steps own p)) g₁ es g₂ v → Went g js own es g₂ v
stops_out g js p g₁ steps own es g₂ v b [] w h = done_ends (Went g js own) _ g₁ es g₂ v h (ends_away g js p g₁ steps own b w)
stops_out g js p g₁ steps own es g₂ v b (f ∷ fs) w h =
    done_ends (Went g js own) _ g₁ es g₂ v h (halts g js own steps Spent p g₁ (inr b) (λ e. absurd (true≢false (sym e))))

goes_after : (n : ℕ) → GoesWell n → (g : Ports) (js : List Entry) (g₁ : Ports) (steps own : ℕ) (es : List Entry) (g₂ : Ports) (v : Stop × Player) →
    (ev : Outcome) (q : Player) → Begun g js q g₁ → Plays (after_step (go_on n) steps own (ev, q)) g₁ es g₂ v → Went g js (own + letters_of ev) es g₂ v
goes_after n ih g js g₁ steps own es g₂ v (Ran k) q b h = ih g js q g₁ (suc steps) (own + k) es g₂ v b h
goes_after n ih g js g₁ steps own es g₂ v (Cued c) q b h =
    subst (λ k. Went g js k es g₂ v) (omega arith)
    (done_ends (Went g js own) _ g₁ es g₂ v h (halts g js own (suc steps) (Cue c) q g₁ (inr b) (λ e. absurd (true≢false (sym e)))))
goes_after n ih g js g₁ steps own es g₂ v (Faulted c place) q b h =
    subst (λ k. Went g js k es g₂ v) (omega arith) (fails_away g js q g₁ c place (suc steps) own es g₂ v b.playing h)

goes_reading : (n : ℕ) → GoesWell n → (g : Ports) (js : List Entry) (p : Player) (g₁ : Ports) (steps own : ℕ) (es : List Entry) (g₂ : Ports) (v : Stop × Player) → Begun g js p g₁ →
    (f : Frame) (fs : List Frame) → Stack p.script (f ∷ fs) p.stations → (r : Read) → first f.block ≡ r → (first f.block ≡ nothing → ⊥) →
    Plays (run_first p f fs r >>= (λ got. after_step (go_on n) steps own got)) g₁ es g₂ v → Went g js own es g₂ v
goes_reading n ih g js p g₁ steps own es g₂ v b f fs w nothing e so h = absurd (so e)
goes_reading n ih g js p g₁ steps own es g₂ v b f fs w broken e so h = absurd (not_broken (scope_at p.script w.place.part) w.place.laid e)
goes_reading n ih g js p g₁ steps own es g₂ v b f fs w (command c rest) e so h =
    let cut = split (run_command p f.block.place f.ports (f ∷ fs) (opened rest f.ports fs) c) (λ got. after_step (go_on n) steps own got) g₁ es g₂ v h in
    let ev : Outcome = cut.0.0 in
    let q : Player = cut.0.1 in
    let d : Stepped g js p cut.2 cut.1 cut.0 =
    command_plays g js p g₁ b.playing cut.2 cut.1 cut.0 f.block.place f.ports (f ∷ fs) (opened rest f.ports fs) c (steps_sure p b.script f fs w rest c e) cut.4 in
    went_more g js own (letters_of ev) es cut.2 cut.3 g₂ v cut.6 d.own
    (goes_after n ih g (js ++ cut.2) cut.1 steps own cut.3 g₂ v ev q
    (record { going = d.next.over ∙ b.going; script = subst ScriptSo (sym d.next.script) b.script; playing = d.playing; stack = d.next.stack })
    cut.5)

-- the top of blocks that are unwound is not empty
abbrev Filled : List Frame → Type 0
Filled [] = Unit {0}
Filled (f ∷ fs) = first f.block ≡ nothing → ⊥

filled : (fs : List Frame) → Filled (unwound fs)
filled [] = tt
filled (f ∷ fs) = by f.block.bytes refl (filled fs)
  where
    by : (bs : List ℕ) → f.block.bytes ≡ bs → Filled (unwound fs) → Filled (elim bs [ [] ↦ unwound fs | b ∷ bs ↦ f ∷ fs ])
    by [] e ih = ih
    by (c ∷ bs) e ih = some_first f.block c bs e

goes_step : (n : ℕ) → GoesWell n → (g : Ports) (js : List Entry) (p : Player) (g₁ : Ports) (steps own : ℕ) (es : List Entry) (g₂ : Ports) (v : Stop × Player) → Begun g js p g₁ →
    (fs : List Frame) → Stack p.script fs p.stations → Filled fs →
    Plays (unless_over steps own p fs (step_from p fs >>= (λ got. after_step (go_on n) steps own got))) g₁ es g₂ v → Went g js own es g₂ v
goes_step n ih g js p g₁ steps own es g₂ v b [] w so h = done_ends (Went g js own) _ g₁ es g₂ v h (ends_away g js p g₁ steps own b w)
goes_step n ih g js p g₁ steps own es g₂ v b (f ∷ fs) w so h = goes_reading n ih g js p g₁ steps own es g₂ v b f fs w (first f.block) refl so h

pub goes_well : (n : ℕ) → GoesWell n
goes_well zero g js p g₁ steps own es g₂ v b h =
    let w = unwinds p.script p.frames p.stations b.stack in
    stops_out g js (settled p) g₁ steps own es g₂ v (reframed g js p g₁ (unwound p.frames) b w) (unwound p.frames) w h
goes_well (suc n) g js p g₁ steps own es g₂ v b h =
    let w = unwinds p.script p.frames p.stations b.stack in
    goes_step n (goes_well n) g js (settled p) g₁ steps own es g₂ v (reframed g js p g₁ (unwound p.frames) b w) (unwound p.frames) w (filled p.frames) h
