-- Calls made one after the other, and what is returned of them.
use Rattle.std.specs.Prelude.{◌≡◌, ℕ, ◌+◌, ◌*◌, ◌≤◌, List, [], ◌∷◌, ◌++◌, map, length, take, vec_items, Ok, Err, OnErr, Result}
use Rattle.std.specs.declared.alloc.AllocError.{AllocError}
use Rattle.protocol.specs.declared.edges.Entry.{Entry}
use Rattle.protocol.specs.Lists.{Each}
use Rattle.device.specs.Ports.{Ports}
use Rattle.rules.specs.Script as rules
use Rattle.script.specs.Held.{script_held}
use Rattle.machine.specs.Runs as machine
use Rattle.machine.specs.Runs.{Scene, first_scene, begins, goes, looks, strikes, Does, joins, Run, started, called, calls_of}
use Rattle.machine.specs.Promise.{AllAway, Orderly}
use Rattle.player.specs.declared.performance.Call.{Call}
use Rattle.player.specs.declared.performance.Call.TheVariants.{Begin, Go, Look, Strike}
use Rattle.player.specs.declared.performance.Answer.{Answer}
use Rattle.player.specs.declared.performance.Answer.TheVariants.{Begun, Went, Looked, Struck}
use Rattle.player.specs.declared.performance.Performance.{Performance}

-- what is asked of a player
pub data Request : Type 0 where
  to_begin : rules.Script → Request
  to_go : (steps : ℕ) → Request
  to_look : (port : ℕ) → Request
  to_strike : Request

abbrev pub request : Call → Request
request (Begin s) = to_begin (script_held s.now)
request (Go n) = to_go n
request (Look i) = to_look i
request Strike = to_strike

-- what a call of a run asked, and what it was answered
abbrev pub request_of : machine.Call → Request
request_of (begins s r) = to_begin s
request_of (goes n log r own log') = to_go n
request_of (looks i r) = to_look i
request_of (strikes log r log') = to_strike

abbrev pub answer_of : machine.Call → Answer
answer_of (begins s r) = Begun r
answer_of (goes n log r own log') = Went r
answer_of (looks i r) = Looked r
answer_of (strikes log r log') = Struck r

-- how many entries the call wrote
abbrev pub letters_in : Answer → ℕ
letters_in (Begun r) = 0
letters_in (Went (Ok r)) = r.letters
letters_in (Went (Err e)) = 0
letters_in (Looked r) = 0
letters_in (Struck (Ok k)) = k
letters_in (Struck (Err e)) = 0

-- The entries of the longest log that a call may need: a letter for each of 1,000 steps, and 15 to each of eight ports.
abbrev pub longest_log : ℕ
longest_log = 1000 + 15 * 8

-- the log that a go or a strike was given has room for every accepted call
abbrev pub LogSuffices : machine.Call → Type 0
LogSuffices (begins s r) = Unit {0}
LogSuffices (goes n log r own log') = longest_log ≤ length log
LogSuffices (looks i r) = Unit {0}
LogSuffices (strikes log r log') = longest_log ≤ length log

-- What a call that is answered so leaves of the rig, as a value: only an accepted go or strike may change it.
abbrev pub Leaves : {R : Type 0} → Answer → R → R → Type 0
Leaves (Begun r) rig rig' = rig' ≡ rig
Leaves (Went r) rig rig' = OnErr r (rig' ≡ rig)
Leaves (Looked r) rig rig' = rig' ≡ rig
Leaves (Struck r) rig rig' = OnErr r (rig' ≡ rig)

-- The call may take one scene to the other, with this answer and these entries.
pub record Answers (x : Scene) (q : Request) (a : Answer) (es : List Entry) (y : Scene) : Type 0 where
  pub call : machine.Call
  pub does : Does call x y
  pub asked : request_of call ≡ q
  pub answered : answer_of call ≡ a
  pub joined : joins call ≡ es
  pub room : LogSuffices call

-- the performance goes on by such a call, and the rig as it may leave it
abbrev pub Makes : {R : Type 0} → Performance → Scene → R → Request → Performance → Scene → R → Type 0
Makes p x rig q p' y rig' =
    (a : Answer) × (es : List Entry) × Answers x q a es y × Leaves a rig rig'
    × (vec_items p'.answers ≡ vec_items p.answers ++ (a ∷ []))
    × (vec_items p'.log ≡ vec_items p.log ++ es)

-- The rig as a value, from the one through the calls of a run to the other: before each call it means what that scene says,
-- and it changes only as that call may change it.
abbrev pub Carries : {R : Type 0} → (R → Ports) → {start : Scene} {js : List Entry} {x : Scene} → Run start js x → R → R → Type 0
Carries {R = R} ports started rig rig' = rig' ≡ rig
Carries {R = R} ports (called js x y c r d) rig rig' =
    (before : R) × Carries ports r rig before × (ports before ≡ x.rig) × Leaves (answer_of c) before rig'

-- A run of calls from a new player on the rig, with these requests and answers and this joined log, that leaves the scene
-- and the rig; each go and strike of it had a log with room for every accepted call.
pub record RunOf {R : Type 0} (ports : R → Ports) (rig : R) (qs : List Request) (as' : List Answer) (js : List Entry) (x : Scene) (rig' : R) : Type 0 where
  pub run : Run (first_scene (ports rig)) js x
  pub requests : map request_of (calls_of run) ≡ qs
  pub answers : map answer_of (calls_of run) ≡ as'
  pub room : Each LogSuffices (calls_of run)
  pub carries : Carries ports run rig rig'

-- There is one that leaves the rig, and where every port was away at first it keeps all that such a run keeps.
abbrev pub Ran : {R : Type 0} → (R → Ports) → R → List Request → List Answer → List Entry → R → Type 0
Ran ports rig qs as' js rig' =
    (x : Scene) × RunOf ports rig qs as' js x rig' × (x.rig ≡ ports rig') × (AllAway (ports rig) → Orderly (ports rig) js x)

-- all of the requests, or as many as memory sufficed for
abbrev pub made : List Request → Performance → Result (Unit {0}) AllocError → List Request
made qs p (Ok u) = qs
made qs p (Err e) = take (length (vec_items p.answers)) qs

-- by what a rig means, from the one to the other
abbrev pub Performed : {R : Type 0} → (R → Ports) → R → List Request → Performance → Result (Unit {0}) AllocError → R → Type 0
Performed ports rig qs p r rig' = Ran ports rig (made qs p r) (vec_items p.answers) (vec_items p.log) rig'
