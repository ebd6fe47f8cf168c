-- One command of a typed stack on a rig: its letter lands, and every port stays as the player keeps it.
use Rattle.std.proofs.Common.{◌≡◌, ℕ, List, ◌∷◌, ◌++◌, length, get_or, set, unwrap_or, sym, refl, ap, subst, append-nil}
use Rattle.protocol.specs.declared.edges.Entry.{Entry}
use Rattle.device.specs.Ports.{Ports}
use Rattle.rules.specs.Script.{Command, ask, cue, dec, fail, no_block, repeat, run, send, store}
use Rattle.machine.specs.declared.report.Outcome.{Outcome}
use Rattle.machine.specs.declared.report.Outcome.TheVariants.{Cued, Faulted, Ran}
use Rattle.machine.specs.Dialogue.{Dialogue, Plays, done, tells}
use Rattle.machine.specs.Player.{Frame, Player, led}
use Rattle.machine.specs.Steps.{opened, run_command}
use Rattle.machine.proofs.Telling.{Playing, Told, tells_on, done_ends}
use Rattle.machine.proofs.Steps.{Next, Sure}

-- the letters of a step
abbrev pub letters_of : Outcome → ℕ
letters_of (Ran k) = k
letters_of (Cued w) = 0
letters_of (Faulted c place) = 0

pub record Stepped (g : Ports) (js : List Entry) (p : Player) (es : List Entry) (g₂ : Ports) (v : Outcome × Player) : Type 0 where
  pub own : length es ≡ letters_of v.0
  pub next : Next p v
  pub playing : Playing g (js ++ es) v.1.script v.1.stations g₂

module _ (g : Ports) (js : List Entry) (p : Player) (g₁ : Ports) (pl : Playing g js p.script p.stations g₁) (es : List Entry) (g₂ : Ports) (v : Outcome × Player) where
  quiet : (ev : Outcome) (rs : List ℕ) (fs : List Frame) →
      let q : Outcome × Player = (ev, record { over = p.over; script = p.script; registers = rs; stations = p.stations; frames = fs }) in
      letters_of ev ≡ 0 → Next p q → Plays (done q) g₁ es g₂ v → Stepped g js p es g₂ v
  quiet ev rs fs none next pr = done_ends (Stepped g js p) _ g₁ es g₂ v pr (record {
    own = sym none;
    next = next;
    playing = subst (λ (x : List Entry). Playing g x p.script p.stations g₁) (sym (append-nil js)) pl;
  })

  speaks : (i l : ℕ) (registers : ℕ → List ℕ) (frames : ℕ → List Frame) →
      let t : Dialogue (Outcome × Player) = tells i l (λ a. done (
        Ran 1,
        record {
          over = p.over;
          script = p.script;
          registers = registers a;
          stations = set p.stations i (led p i l a);
          frames = frames a;
        },
      )) in
      Sure p (Next p) t → Plays t g₁ es g₂ v → Stepped g js p es g₂ v
  speaks i l registers frames sure pr =
      let on : ℕ × Player → Dialogue (Outcome × Player) = λ got. done (
        Ran 1,
        record {
          over = got.1.over;
          script = got.1.script;
          registers = registers got.0;
          stations = got.1.stations;
          frames = frames got.0;
        },
      ) in
      let u : Told g js p i l on es g₂ v = tells_on g js p g₁ i l on es g₂ v pl sure.0 sure.1 pr in
      let next = subst (λ t. Next p (
        Ran 1,
        record {
          over = p.over;
          script = p.script;
          registers = registers u.answer;
          stations = set p.stations i t;
          frames = frames u.answer;
        },
      ))
      (ap (λ o. unwrap_or o 16) u.step) (sure.2 u.answer u.to u.step) in
      subst (λ (y : List Entry). Stepped g js p y g₂ v) (sym u.all)
      (done_ends (λ (y : List Entry) (z : Ports) (q : Outcome × Player). Stepped g js p (u.sent ∷ y) z q) _ u.rig u.later g₂ v u.rest
      (record { own = refl; next = next; playing = u.playing }))

  pub command_plays : (at : ℕ) (ports : List ℕ) (stay past : List Frame) (c : Command) → Sure p (Next p) (run_command p at ports stay past c) → Plays (run_command p at ports stay past c) g₁ es g₂ v →
      Stepped g js p es g₂ v
  command_plays at ports stay past (send h l r) = speaks (get_or ports h 0) l (λ a. set p.registers r a) (λ a. past)
  command_plays at ports stay past (ask h l bs) = speaks (get_or ports h 0) l (λ a. p.registers) (λ a. opened (get_or bs a no_block) ports past)
  command_plays at ports stay past (repeat r b) = quiet _ _ _ refl
  command_plays at ports stay past (run q bs) = quiet _ _ _ refl
  command_plays at ports stay past (store r x) = quiet _ _ _ refl
  command_plays at ports stay past (dec r) = quiet _ _ _ refl
  command_plays at ports stay past (cue n) = quiet _ _ _ refl
  command_plays at ports stay past (fail c) = quiet _ _ _ refl
