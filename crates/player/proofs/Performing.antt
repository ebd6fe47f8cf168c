-- Calls one after the other: what each adds, and that all together are a run.
use Rattle.std.proofs.Common.{◌≡◌, ℕ, ◌+◌, ◌<◌, ◌≤◌, List, [], ◌∷◌, ◌++◌, map, length, get_or, take, Ok, Err, Result, refl, subst, subst₂, sym, ap, ◌∙◌}
use Rattle.std.proofs.lemmas.List.{length-map, length-take-le, map-append, take-map, take_more}
use mathlib.Core.Path.{subst₃}
use Rattle.faults.specs.declared.fault.Fault.{Fault}
use Rattle.protocol.specs.declared.edges.Entry.{Entry}
use Rattle.protocol.specs.Lists.{Each}
use Rattle.protocol.proofs.Lists.{each_join}
use Rattle.device.specs.Meaning.{Lawful}
use Rattle.device.specs.Ports.{Ports}
use Rattle.machine.specs.declared.report.Report.{Report}
use Rattle.machine.specs.Calls.{Log}
use Rattle.machine.specs.Runs.{Scene, joins, goes, strikes, started, called, calls_of}
use Rattle.machine.specs.Player.{Player, new_player}
use Rattle.machine.proofs.Kept.{keeps_protocols}
use Rattle.player.specs.declared.performance.Answer.{Answer}
use Rattle.player.specs.declared.performance.Call.{Call}
use Rattle.player.specs.declared.performance.Answer.TheVariants.{Went, Struck}
use Rattle.player.specs.Performing.{Answers, Leaves, LogSuffices, Ran, Request, RunOf, answer_of, letters_in, request, request_of}

pub go_joins : (n own : ℕ) (log log' : Log) (r : Result Report Fault) → joins (goes n log r own log') ≡ take (letters_in (Went r)) log'
go_joins n own log log' (Ok x) = refl
go_joins n own log log' (Err x) = refl

pub strike_joins : (log log' : Log) (r : Result ℕ Fault) → joins (strikes log r log') ≡ take (letters_in (Struck r)) log'
strike_joins log log' (Ok x) = refl
strike_joins log log' (Err x) = refl

-- The run

-- between two calls
abbrev pub at_rig : {R : Type 0} → (R → Ports) → Player → R → Scene
at_rig ports p rig = record { player = p; rig = ports rig }

module _ {R : Type 0} (ports : R → Ports) (first : R) where
  -- a run to the player and the rig
  abbrev pub RunAt : List Request → List Answer → List Entry → Player → R → Type 0
  RunAt qs as' js p rig = RunOf ports first qs as' js (at_rig ports p rig) rig

  pub run_starts : (as' : List Answer) (js : List Entry) (p : Player) → as' ≡ [] → js ≡ [] → p ≡ new_player → RunAt [] as' js p first
  run_starts as' js p ea ej ep =
      subst₃ (λ as' js p. RunAt [] as' js p first) (sym ea) (sym ej) (sym ep)
      (record { run = started; requests = refl; answers = refl; room = tt; carries = refl })

  module _ (qs : List Request) (as' : List Answer) (js : List Entry) (p : Player) (rig : R) (r : RunAt qs as' js p rig) where
    adds : (q : Request) (a : Answer) (es : List Entry) (p' : Player) (rig' : R) → Answers (at_rig ports p rig) q a es (at_rig ports p' rig') → Leaves a rig rig' →
        RunAt (qs ++ (q ∷ [])) (as' ++ (a ∷ [])) (js ++ es) p' rig'
    adds q a es p' rig' w leaves =
        subst (λ es. RunAt (qs ++ (q ∷ [])) (as' ++ (a ∷ [])) (js ++ es) p' rig') w.joined (record {
          run = called js (at_rig ports p rig) (at_rig ports p' rig') w.call r.run w.does;
          requests = map-append request_of (calls_of r.run) (w.call ∷ []) ∙ rw (r.requests, w.asked);
          answers = map-append answer_of (calls_of r.run) (w.call ∷ []) ∙ rw (r.answers, w.answered);
          room = each_join LogSuffices (calls_of r.run) (w.call ∷ []) r.room (w.room, tt);
          carries = (rig, r.carries, refl, subst (λ b. Leaves b rig rig') (sym w.answered) leaves);
        })

    -- where the laws of rigs hold of it
    pub run_kept : Each Lawful (ports first) → 0 < length (ports first) → length (ports first) ≤ 8 → Ran ports first qs as' js rig
    run_kept ok some few = (at_rig ports p rig, r, refl, λ away. keeps_protocols (ports first) ok away some few js (at_rig ports p rig) r.run)

  -- with the requests of the first calls
  abbrev pub RunTo : List Call → ℕ → List Answer → List Entry → Player → R → Type 0
  RunTo calls i as' js p rig = RunAt (map request (take i calls)) as' js p rig

  module _ (calls : List Call) (i : ℕ) (as' : List Answer) (js : List Entry) (p : Player) (rig : R) (r : RunTo calls i as' js p rig) (as2 : List Answer) (js2 : List Entry) (p' : Player) (rig' : R) where
    pub run_goes_on : (c : Call) (a : Answer) (es : List Entry) → i < length calls → c ≡ get_or calls i c →
        Answers (at_rig ports p rig) (request c) a es (at_rig ports p' rig') → Leaves a rig rig' →
        as2 ≡ as' ++ (a ∷ []) → js2 ≡ js ++ es → RunTo calls (i + 1) as2 js2 p' rig'
    run_goes_on c a es lt e w leaves ea ej =
        let more : map request (take i calls) ++ (request c ∷ []) ≡ map request (take (i + 1) calls) =
        ap (λ d. map request (take i calls) ++ (request d ∷ [])) e ∙ sym (map-append request (take i calls) (get_or calls i c ∷ [])) ∙ ap (map request) (sym (take_more calls i c lt)) in
        subst₃ (λ qs as' js. RunAt qs as' js p' rig') more (sym ea) (sym ej) (adds (map request (take i calls)) as' js p rig r (request c) a es p' rig' w leaves)

    -- as many answers as requests
    answered : length as' ≡ length (map request (take i calls))
    answered = ap length (sym r.answers) ∙ length-map (calls_of r.run) answer_of ∙ sym (length-map (calls_of r.run) request_of) ∙ ap length r.requests

    pub run_stops : i ≤ length calls → as2 ≡ as' → js2 ≡ js → p' ≡ p → rig' ≡ rig → RunAt (take (length as2) (map request calls)) as2 js2 p' rig'
    run_stops le ea ej ep er =
        let n : length as2 ≡ i = ap length ea ∙ answered ∙ length-map (take i calls) request ∙ length-take-le i calls le in
        let qs : map request (take i calls) ≡ take (length as2) (map request calls) = sym (take-map request i calls) ∙ ap (λ k. take k (map request calls)) (sym n) in
        subst₂ (λ qs rig. RunAt qs as2 js2 p' rig) qs (sym er) (subst₃ (λ as' js p. RunTo calls i as' js p rig) (sym ea) (sym ej) (sym ep) r)
