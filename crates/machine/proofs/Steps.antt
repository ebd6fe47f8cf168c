-- One command of a typed stack: whatever declared answer its letter gets, the stack is typed again.
use Rattle.std.proofs.Common.{◌≡◌, ℕ, suc, ◌<◌, Bool, true, false, cond, eqb, List, ◌∷◌, length, get_or, take, set, Some, unwrap_or, sym, refl, ap, ◌∙◌, subst, subst₂, lit<}
use Rattle.protocol.specs.Tables.{Allowed, Table, table_of}
use Rattle.book.specs.Kinds.{no_kind}
use Rattle.rules.specs.Keys.{Binds, BlockKeys, LaidOut}
use Rattle.rules.specs.Script.{Block, Command, Keys, Part, Scope, Script, ask, at, command, cue, dec, fail, first, hand_over, no_block, repeat, run, send, store, table_at}
use Rattle.rules.proofs.Derived.{Goes_on, Laid, Says, block_laid, first_derived, first_laid, said}
use Rattle.rules.proofs.Reading.{reads_within}
use Rattle.rules.proofs.Scripts.{ScriptSo, lower, scope_at}
use Rattle.machine.specs.declared.report.Outcome.{Outcome}
use Rattle.machine.specs.declared.report.Outcome.TheVariants.{Cued, Faulted, Ran}
use Rattle.machine.specs.Dialogue.{Dialogue, done, tells}
use Rattle.machine.specs.Player.{Frame, Player, kept, led, port_table}
use Rattle.machine.specs.Steps.{opened, run_command}
use Rattle.machine.proofs.Typed.{Holds, Stack, Typed, elsewhere_moved, elsewhere_then, enters, handles_of, holds_moved, passes, unmoved}
use Rattle.machine.proofs.Bindings.{runs_part}

-- what a command leaves of the player
pub record Next (p : Player) (v : Outcome × Player) : Type 0 where
  pub script : v.1.script ≡ p.script
  pub over : v.1.over ≡ p.over
  pub stack : Stack v.1.script v.1.frames v.1.stations

-- a letter goes to one of the ports, is allowed at its station, and whatever its declared answer comes to this
abbrev pub Sure : Player → (Outcome × Player → Type 0) → Dialogue (Outcome × Player) → Type 0
Sure p P (done v) = P v
Sure p P (tells i l k) =
    (i < length p.stations) × Allowed (port_table p.script i) (kept p i) l × ((a t : ℕ) → port_table p.script i (kept p i) l a ≡ Some t → Sure p P (k a))

-- without a letter
quiet : (p : Player) (ev : Outcome) (rs : List ℕ) (fs : List Frame) → Stack p.script fs p.stations →
    Next p (ev, record { over = p.over; script = p.script; registers = rs; stations = p.stations; frames = fs })
quiet p ev rs fs w = record { script = refl; over = refl; stack = w }

-- Commands

module _ (p : Player) (so : ScriptSo p.script) (f : Frame) (fs : List Frame) (w : Typed p.script f p.stations (length fs) (λ st'. Stack p.script fs st'))
    (rest : Block) where
  abbrev s : Script
  s = p.script

  abbrev X : Scope
  X = scope_at p.script w.place.part

  -- what is below the top block
  abbrev Below : List ℕ → Type 0
  Below st = Stack p.script fs st

  -- the port of a handle, and its station after an answer
  abbrev port_of : ℕ → ℕ
  port_of h = get_or f.ports h 0

  abbrev moved_to : ℕ → ℕ → List ℕ
  moved_to h t = set p.stations (get_or f.ports h 0) t

  same_table : (h : ℕ) → h < handles_of X → table_at X h ≡ port_table s (port_of h)
  same_table h lt = ap (λ k. table_of (get_or s.book k no_kind).edges) (w.kinds h lt)

  -- the rest of the block, where no key moved
  past_same : (ks : Keys) → w.keys ≡ ks → BlockKeys X rest ks w.ends → LaidOut X w.place.depth rest → Stack s (opened rest f.ports fs) p.stations
  past_same ks e d l =
      passes s f p.stations (length fs) Below rest w ks d l p.stations (subst (λ v. Holds X f.ports v p.stations) e w.holds) (unmoved X f.ports p.stations)

  moved_holds : (h t : ℕ) → h < handles_of X → Holds X f.ports (set w.keys h t) (moved_to h t)
  moved_holds h t lt = holds_moved X f.ports w.keys p.stations h t lt w.holds

  -- a letter that the keys allow, whatever the player does with the answer
  speaks : (h l : ℕ) → h < handles_of X → Allowed (table_at X h) (at w.keys h) l → (registers : ℕ → List ℕ) (frames : ℕ → List Frame) →
      ((a t : ℕ) → table_at X h (at w.keys h) l a ≡ Some t → Stack s (frames a) (moved_to h t)) →
      Sure p (Next p) (tells (port_of h) l (λ a. done (
        Ran 1,
        record {
          over = p.over;
          script = p.script;
          registers = registers a;
          stations = moved_to h (led p (port_of h) l a);
          frames = frames a;
        },
      )))
  speaks h l lt ok registers frames typed = (
    w.holds.present h lt,
    subst₂ (λ (T : Table) (n : ℕ). Allowed T n l) (same_table h lt) (sym (w.holds.stations h lt)) ok,
    λ a t step. record {
      script = refl;
      over = refl;
      stack = subst (λ v. Stack s (frames a) (moved_to h v)) (sym (ap (λ o. unwrap_or o 16) step))
          (typed a t (subst₂ (λ (T : Table) (n : ℕ). T n l a ≡ Some t) (sym (same_table h lt)) (w.holds.stations h lt) step));
    },
  )

  stepped : (c : Command) → first f.block ≡ command c rest → (ks : Keys) → Says X c w.keys ks → BlockKeys X rest ks w.ends → Laid X w.place.depth c rest →
      Sure p (Next p) (run_command p f.block.place f.ports (f ∷ fs) (opened rest f.ports fs) c)
  stepped (send h l r) e ks sa d la =
      speaks h l la.0.0 sa.1 (λ a. set p.registers r a) (λ a. opened rest f.ports fs)
      (λ a t dec. passes s f p.stations (length fs) Below rest w (set w.keys h t)
      (subst (λ k. BlockKeys X rest k w.ends) (sym (ap (set w.keys h) (sa.2 a t dec) ∙ sa.3)) d) la.3
      (moved_to h t) (moved_holds h t la.0.0) (elsewhere_moved X f.ports p.stations h t la.0.0))
  stepped (ask h l bs) e ks sa d la =
      speaks h l la.0.0 sa.0 (λ a. p.registers) (λ a. opened (get_or bs a no_block) f.ports (opened rest f.ports fs))
      (λ a t dec. enters s f p.stations (length fs) Below (λ st'. Stack s (opened rest f.ports fs) st') w (get_or bs a no_block) (set w.keys h t) ks la.1
      (sa.1 a t dec) (block_laid X (suc w.place.depth) bs a la.2) (moved_to h t) (moved_holds h t la.0.0)
      (λ st' hs el. passes s f p.stations (length fs) Below rest w ks d la.3 st' hs
      (elsewhere_then X f.ports p.stations (moved_to h t) st' (elsewhere_moved X f.ports p.stations h t la.0.0) el)))
  stepped (repeat r b) e ks sa d la =
      quiet p (Ran 0) p.registers _ (by (eqb (get_or p.registers r 0) 0))
    where
      by : (z : Bool) → Stack s (cond z (opened rest f.ports fs) (opened b f.ports (f ∷ fs))) p.stations
      by true = past_same ks sa.1 d la.3
      by false = enters s f p.stations (length fs) Below (λ st'. Stack s (f ∷ fs) st') w b w.keys w.keys la.1 sa.0 (la.2 0 (lit< tt)) p.stations w.holds
          (λ st' hs el. passes s f p.stations (length fs) Below f.block w w.keys w.derived w.place.laid st' hs el)
  stepped (run q bs) e ks sa d la =
      let low = lower s w.place.part q sa.0 in
      let there = subst (λ (r : Part). Binds X r bs w.keys × (hand_over w.keys (take r.handles bs) r.outs ≡ ks)) low.1 (sa.1, sa.2) in
      quiet p (Ran 0) p.registers _
      (runs_part s f p.stations (length fs) Below w q bs so (reads_within f.block (run q bs) rest e).whole la.0.1 sa.0 there.0
      rest (subst (λ k. BlockKeys X rest k w.ends) (sym there.1) d) la.3)
  stepped (store r x) e ks sa d la = quiet p (Ran 0) _ _ (past_same ks sa d la.3)
  stepped (dec r) e ks sa d la = quiet p (Ran 0) _ _ (past_same ks sa d la.3)
  stepped (cue n) e ks sa d la = quiet p (Cued n) _ _ (past_same ks sa d la.3)
  stepped (fail c) e ks sa d la = quiet p (Faulted c f.block.place) _ _ (past_same ks sa d la.3)

  -- the first command of the top block
  pub steps_sure : (c : Command) → first f.block ≡ command c rest → Sure p (Next p) (run_command p f.block.place f.ports (f ∷ fs) (opened rest f.ports fs) c)
  steps_sure c e =
      let got : Goes_on X c rest w.keys w.ends = first_derived X c rest w.derived e in
      stepped c e got.0 (said X got.1) got.2 (first_laid X c rest w.place.laid e)
