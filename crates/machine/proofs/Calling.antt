-- Every call keeps the protocols of the ports.
use Rattle.std.proofs.Common.{◌≡◌, ℕ, ◌+◌, ◌*◌, ◌<◌, ◌≤◌, Bool, true, false, cond, not, List, [], ◌++◌, length, take, drop, Ok, Err, sym, refl, ap, ◌∙◌, subst, subst₂, inl, inr, true≢false, append-nil, arith, length-append}
use lib.Seq.{take-append_seam, drop-append_seam, drop-length, drop-nil}
use Rattle.faults.specs.declared.causes.StageCause.TheVariants.{NotOver, Over}
use Rattle.faults.specs.Numbers.{nowhere, stage_fault}
use Rattle.faults.specs.Results.{need}
use Rattle.faults.proofs.Results.{bound, needed}
use Rattle.protocol.specs.declared.edges.Entry.{Entry}
use Rattle.protocol.specs.Lists.{Each}
use Rattle.protocol.proofs.Tests.{not_true}
use Rattle.device.specs.Ports.{Ports}
use Rattle.machine.specs.Player.{Player}
use Rattle.machine.specs.Going.{Stop}
use Rattle.machine.specs.Calls.{Log, written}
use Rattle.machine.specs.Runs.{Call, Does, Scene, before_exit, begins, closes, goes, is_failed, joins, looks, most, strikes}
use Rattle.machine.specs.Promise.{AtPorts, CallKept, ShortExit}
use Rattle.machine.proofs.Letters.{exit_few, few_plays, go_few}
use Rattle.machine.proofs.Ports.{Live, PortSo, at_map}
use Rattle.machine.proofs.Telling.{counted}
use Rattle.machine.proofs.Exits.{Resting, Gone, exits}
use Rattle.machine.proofs.Going.{Begun, SceneSo, Went, goes_well}
use Rattle.machine.proofs.Beginning.{begins_well}

-- Which players a call accepts

begun_of : (g : Ports) (js : List Entry) (p : Player) (g₁ : Ports) → SceneSo g js p g₁ → not p.over ≡ true → Begun g js p g₁
begun_of g js p g₁ (inl r) e = absurd (not_true e r.over)
begun_of g js p g₁ (inr b) e = b

pub resting_of : (g : Ports) (js : List Entry) (p : Player) (g₁ : Ports) → SceneSo g js p g₁ → p.over ≡ true → Resting g js p g₁
resting_of g js p g₁ (inl r) e = r
resting_of g js p g₁ (inr b) e = absurd (true≢false (sym e ∙ b.going))

pub ports_of : (g : Ports) (js : List Entry) (p : Player) (g₁ : Ports) → SceneSo g js p g₁ → AtPorts (PortSo js) g g₁
ports_of g js p g₁ (inl r) = r.ports
ports_of g js p g₁ (inr b) = at_map (Live p.script p.stations js) (PortSo js) g g₁ (λ i m m' lv. lv.so) b.playing.ports

pub within_of : (g : Ports) (js : List Entry) (p : Player) (g₁ : Ports) → SceneSo g js p g₁ → Each (λ e. e.port < length g) js
within_of g js p g₁ (inl r) = r.within
within_of g js p g₁ (inr b) = b.playing.within

-- Calls

abbrev Keeps : Ports → List Entry → Call → Scene → Type 0
Keeps g js c y = CallKept js c y × SceneSo g (js ++ joins c) y.player y.rig

-- a call that adds no entry and leaves no player over
idle : (g : Ports) (js : List Entry) (c : Call) (y : Scene) → joins c ≡ [] → before_exit c ≡ 0 → closes c ≡ false → SceneSo g js y.player y.rig → Keeps g js c y
idle g js c y none first unclosed sc = (
  record {
    home = λ e. absurd (true≢false (sym e ∙ unclosed));
    few = subst (λ (x : List Entry). length x ≤ most c) (sym none) (omega arith);
    whole = omega (arith, first);
    short_exit = subst (λ (x : List Entry). ShortExit (js ++ take (before_exit c) x) (drop (before_exit c) x)) (sym none)
        (subst (λ (x : List Entry). ShortExit (js ++ take (before_exit c) []) x) (sym (drop-nil (before_exit c))) (λ i. (omega arith, λ e. refl)));
  },
  subst (λ (x : List Entry). SceneSo g (js ++ x) y.player y.rig) (sym none) (subst (λ (x : List Entry). SceneSo g x y.player y.rig) (sym (append-nil js)) sc),
)

same_scene : (g : Ports) (js : List Entry) (x y : Scene) → y.player ≡ x.player → y.rig ≡ x.rig → SceneSo g js x.player x.rig → SceneSo g js y.player y.rig
same_scene g js x y p r sc = subst₂ (λ (u : Player) (v : Ports). SceneSo g js u v) (sym p) (sym r) sc

-- the entries of a log that was written
joined : (es : List Entry) (k : ℕ) (log log' : Log) → k ≡ length es → log' ≡ written es log → take k log' ≡ es
joined es k log log' n w = ap (λ v. take v log') n ∙ ap (take (length es)) w ∙ take-append_seam es (drop (length es) log)

go_exit : (g : Ports) (js : List Entry) (es : List Entry) (own letters : ℕ) (g₂ : Ports) (v : Stop × Player) → v.0.own ≡ own → letters ≡ length es → Went g js 0 es g₂ v →
    (b : Bool) → is_failed v.0.reason ≡ b → ShortExit (js ++ take (cond b own letters) es) (drop (cond b own letters) es)
go_exit g js es own letters g₂ v o len w true e =
    let own_is : own ≡ length w.before = omega (arith, o, w.count) in
    subst₂ (λ (x y : List Entry). ShortExit (js ++ x) y)
    (sym (ap₂_take own_is ∙ take-append_seam w.before w.behind))
    (sym (ap₂_drop own_is ∙ drop-append_seam w.before w.behind))
    w.short
  where
    ap₂_take : own ≡ length w.before → take own es ≡ take (length w.before) (w.before ++ w.behind)
    ap₂_take q = ap (λ k. take k es) q ∙ ap (take (length w.before)) w.cut

    ap₂_drop : own ≡ length w.before → drop own es ≡ drop (length w.before) (w.before ++ w.behind)
    ap₂_drop q = ap (λ k. drop k es) q ∙ ap (drop (length w.before)) w.cut
go_exit g js es own letters g₂ v o len w false e =
    subst (λ (x : List Entry). ShortExit (js ++ take letters es) x) (sym (ap (λ k. drop k es) len ∙ drop-length es)) (λ i. (omega arith, λ q. refl))

go_whole : (g : Ports) (js : List Entry) (es : List Entry) (own letters : ℕ) (g₂ : Ports) (v : Stop × Player) → v.0.own ≡ own → letters ≡ length es → Went g js 0 es g₂ v →
    (b : Bool) → cond b own letters ≤ length es
go_whole g js es own letters g₂ v o len w true = omega (arith, o, w.count, ap length w.cut, length-append w.before w.behind)
go_whole g js es own letters g₂ v o len w false = omega (arith, len)

-- every call keeps what is kept
pub call_keeps : (g : Ports) → 0 < length g → length g ≤ 8 → (js : List Entry) (x y : Scene) (c : Call) → SceneSo g js x.player x.rig → Does c x y → Keeps g js c y
call_keeps g pos eight js x y (begins s (Ok k)) sc d =
    let c = bound (need x.player.over (stage_fault NotOver nowhere)) _ y.player d.1.0 in
    let r : Resting g js x.player x.rig = resting_of g js x.player x.rig sc (needed x.player.over (stage_fault NotOver nowhere) c.0 c.1) in
    idle g js (begins s (Ok k)) y refl refl refl
    (subst (λ (v : Ports). SceneSo g js y.player v) (sym d.2)
    (inr (begins_well g js x.player x.rig s y.player pos d.0 r d.1.0)))
call_keeps g pos eight js x y (begins s (Err e)) sc d = idle g js (begins s (Err e)) y refl refl refl (same_scene g js x y d.1.1 d.2 sc)
call_keeps g pos eight js x y (goes n log (Ok r) own log') sc d =
    let es : List Entry = d.1.0 in
    let ok = bound (need (not x.player.over) (stage_fault Over nowhere)) _ tt d.0 in
    let b : Begun g js x.player x.rig = begun_of g js x.player x.rig sc (needed _ (stage_fault Over nowhere) ok.0 ok.1) in
    let v : Stop × Player = (record { reason = r.reason; steps = r.steps; own = own }, y.player) in
    let w : Went g js 0 es y.rig v = goes_well n g js x.player x.rig 0 0 es y.rig v b d.1.1 in
    let sent = few_plays (n + 15 * length x.player.stations) _ (go_few (length x.player.stations) n 0 0 x.player refl) d.1.1 in
    let same = counted g js x.player.script x.player.stations x.rig b.playing in
    let log_is : take r.letters log' ≡ es = joined es r.letters log log' d.1.2 d.1.3 in (
      record {
        home = w.home;
        few = subst (λ (z : List Entry). length z ≤ n + 120) (sym log_is) (omega (arith, sent, same, eight));
        whole = subst (λ (z : List Entry). cond (is_failed r.reason) own r.letters ≤ length z) (sym log_is) (go_whole g js es own r.letters y.rig v refl d.1.2 w (is_failed r.reason));
        short_exit = subst (λ (z : List Entry). ShortExit (js ++ take (cond (is_failed r.reason) own r.letters) z) (drop (cond (is_failed r.reason) own r.letters) z)) (sym log_is)
            (go_exit g js es own r.letters y.rig v refl d.1.2 w (is_failed r.reason) refl);
      },
      subst (λ (z : List Entry). SceneSo g (js ++ z) y.player y.rig) (sym log_is) w.scene,
    )
call_keeps g pos eight js x y (goes n log (Err e) own log') sc d = idle g js (goes n log (Err e) own log') y refl refl refl (same_scene g js x y d.1 d.2 sc)
call_keeps g pos eight js x y (looks i r) sc d = idle g js (looks i r) y refl refl refl (same_scene g js x y d.0.1 d.1 sc)
call_keeps g pos eight js x y (strikes log (Ok k) log') sc d =
    let es : List Entry = d.1.0 in
    let ok = bound (need (not x.player.over) (stage_fault Over nowhere)) _ tt d.0 in
    let b : Begun g js x.player x.rig = begun_of g js x.player x.rig sc (needed _ (stage_fault Over nowhere) ok.0 ok.1) in
    let w : Gone g js y.player y.rig es = exits g js x.player x.rig es y.rig y.player b.playing d.1.1 in
    let sent = few_plays (15 * length x.player.stations) _ (exit_few (length x.player.stations) x.player refl) d.1.1 in
    let same = counted g js x.player.script x.player.stations x.rig b.playing in
    let log_is : take k log' ≡ es = joined es k log log' d.1.2 d.1.3 in (
      record {
        home = λ e. w.0.home;
        few = subst (λ (z : List Entry). length z ≤ 120) (sym log_is) (omega (arith, sent, same, eight));
        whole = omega arith;
        short_exit = subst₂ (λ (u z : List Entry). ShortExit u z) (sym (append-nil js)) (sym log_is) w.1;
      },
      subst (λ (z : List Entry). SceneSo g (js ++ z) y.player y.rig) (sym log_is) (inl w.0),
    )
call_keeps g pos eight js x y (strikes log (Err e) log') sc d = idle g js (strikes log (Err e) log') y refl refl refl (same_scene g js x y d.1 d.2 sc)
