-- One command: what it did is what its dialogue may come to.
use Rattle.std.proofs.Common.{◌≡◌, ℕ, List, [], ◌∷◌, Some, None, Option, sym, subst, subst₂}
use Rattle.std.specs.Option.{option_to_list}
use Rattle.protocol.specs.declared.edges.Entry.{Entry}
use Rattle.device.specs.Ports.{Ports, RigHears}
use Rattle.rules.specs.Script.{Block, Command}
use Rattle.machine.specs.declared.report.Outcome.{Outcome}
use Rattle.machine.specs.Dialogue.{Plays, done, ended, entry_in, tells, told}
use Rattle.machine.specs.Player.{Player}
use Rattle.player.specs.Runs.{runs}

abbrev pub Ending : Type 0
Ending = Outcome × Player

-- without a letter
pub quiet : {g : Ports} (x y : Ending) (s : Option Entry) → s ≡ None → x ≡ y → Plays (done y) g (option_to_list s) g x
quiet {g} x y s silent same = subst₂ (λ (z : Ending) (r : Option Entry). Plays (done y) g (option_to_list r) g z) (sym same) (sym silent) (ended y g)

heard_one : (k : ℕ → Ending) (i l : ℕ) {g g' : Ports} (e : Entry) → RigHears g i l e.answer g' → e ≡ entry_in g' i l e.answer →
    Plays (tells i l (λ a. done (k a))) g (e ∷ []) g' (k e.answer)
heard_one k i l {g} {g'} e heard is =
    subst (λ (d : Entry). Plays (tells i l (λ a. done (k a))) g (d ∷ []) g' (k e.answer)) (sym is) (told i l e.answer (λ a. done (k a)) g g' g' [] (k e.answer) heard (ended (k e.answer) g'))

-- with one, whose port goes by two names
pub spoken : (k : ℕ → ℕ → Ending) (i j l : ℕ) {g g' : Ports} (e : Entry) (x : Ending) (s : Option Entry) → i ≡ j → RigHears g i l e.answer g' →
    e ≡ entry_in g' i l e.answer → s ≡ Some e → x ≡ k i e.answer → Plays (tells j l (λ a. done (k j a))) g (option_to_list s) g' x
spoken k i j l {g} {g'} e x s port heard is sent same =
    subst (λ n. Plays (tells n l (λ a. done (k n a))) g (option_to_list s) g' x) port
    (subst₂ (λ (z : Ending) (r : Option Entry). Plays (tells i l (λ a. done (k i a))) g (option_to_list r) g' z) (sym same) (sym sent) (heard_one (k i) i l e heard is))

-- of a command that goes by two names
pub by_name : (p : Player) (place : ℕ) (ports : List ℕ) (rest : Block) {c d : Command} {g : Ports} {es : List Entry} {g' : Ports} {x : Ending} → c ≡ d →
    Plays (runs p place ports rest d) g es g' x → Plays (runs p place ports rest c) g es g' x
by_name p place ports rest {g = g} {es = es} {g' = g'} {x = x} same h = subst (λ (c : Command). Plays (runs p place ports rest c) g es g' x) (sym same) h
