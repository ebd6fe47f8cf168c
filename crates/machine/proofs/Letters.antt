-- Whatever the answers, a fault exit sends at most 15 letters to each port, and a go of n steps at most n before it.
use Rattle.std.proofs.Common.{◌≡◌, ℕ, zero, suc, ◌+◌, ◌*◌, ◌≤◌, List, [], ◌∷◌, length, get_or, ◌∙◌, le_of_suc-le-suc, arith, length-set}
use Rattle.protocol.specs.declared.edges.Entry.{Entry}
use Rattle.device.specs.Ports.{Ports}
use Rattle.rules.specs.Lists.{from}
use Rattle.rules.specs.Script.{Command, Read, ask, broken, command, cue, dec, fail, first, nothing, repeat, run, send, store}
use Rattle.rules.proofs.Lists.{length_from}
use Rattle.machine.specs.declared.report.Outcome.{Outcome}
use Rattle.machine.specs.declared.report.Outcome.TheVariants.{Cued, Faulted, Ran}
use Rattle.machine.specs.declared.report.Reason.TheVariants.{Failed, Spent}
use Rattle.machine.specs.Dialogue.{Dialogue, Plays, ◌>>=◌, done, ended, tells, told}
use Rattle.machine.specs.Player.{Frame, Player, finished, kept, led, with_station}
use Rattle.machine.specs.Steps.{opened, run_command, run_first, step_from, unwound}
use Rattle.machine.specs.Exits.{fault_exit, retreat_from, retreat_letter, withdraw, withdraw_all}
use Rattle.machine.specs.Going.{after_step, go_on, settled, stop, stop_failed, unless_over}

-- a talk of at most n letters, whatever the answers, that comes to this
abbrev pub Few : {X : Type 0} → ℕ → (X → Type 0) → Dialogue X → Type 0
Few n P (done x) = P x
Few zero P (tells i l k) = ⊥
Few (suc n) P (tells i l k) = (a : ℕ) → Few n P (k a)

few_more : {X : Type 0} (n m : ℕ) (P : X → Type 0) (t : Dialogue X) → n ≤ m → Few n P t → Few m P t
few_more n m P (done x) le w = w
few_more zero m P (tells i l k) le w = absurd w
few_more (suc n) zero P (tells i l k) le w = absurd (omega (arith, le))
few_more (suc n) (suc m) P (tells i l k) le w = λ a. few_more n m P (k a) (le_of_suc-le-suc le) (w a)

-- one after the other, with room for both
few_then : {X Y : Type 0} (n m room : ℕ) (P : X → Type 0) (Q : Y → Type 0) (t : Dialogue X) (f : X → Dialogue Y) → n + m ≤ room → Few n P t → ((x : X) → P x → Few m Q (f x)) → Few room Q (t >>= f)
few_then n m room P Q (done x) f le w next = few_more m room Q (f x) (omega (arith, le)) (next x w)
few_then zero m room P Q (tells i l k) f le w next = absurd w
few_then (suc n) m zero P Q (tells i l k) f le w next = absurd (omega (arith, le))
few_then (suc n) m (suc room) P Q (tells i l k) f le w next = λ a. few_then n m room P Q (k a) f (omega (arith, le)) (w a) next

pub few_plays : {X : Type 0} (n : ℕ) (P : X → Type 0) {t : Dialogue X} {g : Ports} {es : List Entry} {g' : Ports} {x : X} → Few n P t → Plays t g es g' x → length es ≤ n
few_plays n P w (ended x g) = omega arith
few_plays zero P w (told p l a k g g' g'' es x h r) = absurd w
few_plays (suc n) P w (told p l a k g g' g'' es x h r) = let ih = few_plays n P (w a) r in omega (arith, ih)

-- as many ports
abbrev Count : ℕ → Player → Type 0
Count k p = length p.stations ≡ k

-- Fault exits

pub withdraw_few : (n i k : ℕ) (p : Player) → Count k p → Few n (Count k) (withdraw n i p)
withdraw_few zero i k p e = e
withdraw_few (suc n) i k p e = by (kept p i) (withdraw_few n i k)
  where
    by : (v : ℕ) → ((q : Player) → Count k q → Few n (Count k) (withdraw n i q)) → Few (suc n) (Count k) (retreat_from v (withdraw n i) i p)
    by zero ih = e
    by (suc v) ih = λ a. ih (with_station p i (led p i (retreat_letter p i) a)) (length-set p.stations i (led p i (retreat_letter p i) a) ∙ e)

withdraw_all_few : (is : List ℕ) (k : ℕ) (p : Player) → Count k p → Few (15 * length is) (Count k) (withdraw_all is p)
withdraw_all_few [] k p e = e
withdraw_all_few (i ∷ is) k p e =
    few_then 15 (15 * length is) (15 * suc (length is)) (Count k) (Count k) (withdraw 15 i p) (λ q. withdraw_all is q) (omega arith)
    (withdraw_few 15 i k p e) (λ q e'. withdraw_all_few is k q e')

pub exit_few : (k : ℕ) (p : Player) → Count k p → Few (15 * k) (Count k) (fault_exit p)
exit_few k p e =
    let is : List ℕ = from 0 (length p.stations) in
    few_then (15 * length is) 0 (15 * k) (Count k) (Count k) (withdraw_all is p) (λ q. done (finished q)) (omega (arith, length_from 0 (length p.stations), e))
    (withdraw_all_few is k p e) (λ q e'. e')

-- Going

abbrev Counts : {X : Type 0} → ℕ → X × Player → Type 0
Counts k v = Count k v.1

command_few : (k : ℕ) (p : Player) (at : ℕ) (ports : List ℕ) (stay past : List Frame) → Count k p → (c : Command) → Few 1 (Counts k) (run_command p at ports stay past c)
command_few k p at ports stay past e (send h l r) = λ a. length-set p.stations (get_or ports h 0) (led p (get_or ports h 0) l a) ∙ e
command_few k p at ports stay past e (ask h l bs) = λ a. length-set p.stations (get_or ports h 0) (led p (get_or ports h 0) l a) ∙ e
command_few k p at ports stay past e (repeat r b) = e
command_few k p at ports stay past e (run q bs) = e
command_few k p at ports stay past e (store r v) = e
command_few k p at ports stay past e (dec r) = e
command_few k p at ports stay past e (cue n) = e
command_few k p at ports stay past e (fail c) = e

failed_few : (k c place steps own : ℕ) (p : Player) → Count k p → Few (15 * k) (Counts k) (stop_failed c place steps own p)
failed_few k c place steps own p e =
    few_then (15 * k) 0 (15 * k) (Count k) (Counts k) (fault_exit p) (λ q. stop (Failed c place) steps own q) (omega arith) (exit_few k p e) (λ q e'. e')

abbrev GoesFew : ℕ → ℕ → Type 0
GoesFew k n = (steps own : ℕ) (p : Player) → Count k p → Few (n + 15 * k) (Counts k) (go_on n steps own p)

after_few : (k n : ℕ) → GoesFew k n → (steps own : ℕ) (ev : Outcome) (p : Player) → Count k p → Few (n + 15 * k) (Counts k) (after_step (go_on n) steps own (ev, p))
after_few k n ih steps own (Ran j) p e = ih (suc steps) (own + j) p e
after_few k n ih steps own (Cued c) p e = e
after_few k n ih steps own (Faulted c place) p e =
    few_more (15 * k) (n + 15 * k) (Counts k) (stop_failed c place (suc steps) own p) (omega arith) (failed_few k c place (suc steps) own p e)

read_few : (k : ℕ) (p : Player) (f : Frame) (fs : List Frame) → Count k p → (r : Read) → Few 1 (Counts k) (run_first p f fs r)
read_few k p f fs e nothing = e
read_few k p f fs e broken = e
read_few k p f fs e (command c rest) = command_few k p f.block.place f.ports (f ∷ fs) (opened rest f.ports fs) e c

step_few : (k n : ℕ) → GoesFew k n → (steps own : ℕ) (p : Player) → Count k p → (fs : List Frame) →
    Few (suc n + 15 * k) (Counts k) (unless_over steps own p fs (step_from p fs >>= (λ got. after_step (go_on n) steps own got)))
step_few k n ih steps own p e [] = e
step_few k n ih steps own p e (f ∷ fs) =
    few_then 1 (n + 15 * k) (suc n + 15 * k) (Counts k) (Counts k) (run_first p f fs (first f.block)) (λ got. after_step (go_on n) steps own got) (omega arith)
    (read_few k p f fs e (first f.block))
    (λ v e'. after_few k n ih steps own v.0 v.1 e')

out_few : (k steps own : ℕ) (p : Player) → Count k p → (fs : List Frame) → Few (0 + 15 * k) (Counts k) (unless_over steps own p fs (stop Spent steps own p))
out_few k steps own p e [] = e
out_few k steps own p e (f ∷ fs) = e

pub go_few : (k n : ℕ) → GoesFew k n
go_few k zero steps own p e = out_few k steps own (settled p) e (unwound p.frames)
go_few k (suc n) steps own p e = step_few k n (go_few k n) steps own (settled p) e (unwound p.frames)
