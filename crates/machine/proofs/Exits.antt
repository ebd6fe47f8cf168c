-- A fault exit brings every port away, each in at most 15 letters.
use Rattle.std.proofs.Common.{◌≡◌, ℕ, zero, suc, ◌<◌, ◌≤◌, true, ◌≢◌, List, [], ◌∷◌, ◌++◌, length, sym, refl, ap, ◌∙◌, subst, append_assoc, append-nil, arith, length-set, get_or-set_other, get_or-set_same}
use mathlib.Core.Path.{subst₃}
use native.Mathlib.Decide.{ℕ_discrete, dec_lt}
use lib.ListN.{get_or-eq_default}
use Rattle.protocol.specs.declared.edges.Entry.{Entry}
use Rattle.protocol.specs.Lists.{Each}
use Rattle.protocol.specs.Paths.{of_port}
use Rattle.book.specs.Home.{ComesHome}
use Rattle.device.specs.Ports.{Ports}
use Rattle.rules.specs.Lists.{from}
use Rattle.rules.proofs.Lists.{each_from, from_each}
use Rattle.machine.specs.Dialogue.{Plays, ◌>>=◌, done}
use Rattle.machine.specs.Player.{Player, finished, port_kind, kept, tell, with_station}
use Rattle.machine.specs.Exits.{fault_exit, retreat_from, retreat_letter, withdraw, withdraw_all}
use Rattle.machine.specs.Promise.{AllAway, AtPorts, ShortExit, last_station}
use Rattle.machine.proofs.Dialogues.{split, unfolds}
use Rattle.machine.proofs.Letters.{few_plays, withdraw_few}
use Rattle.machine.proofs.Entries.{of_port_append, of_port_length, one_other, path_last}
use Rattle.machine.proofs.Ports.{Live, PortSo, at_all, at_map, port_at}
use Rattle.machine.proofs.Held.{comes, Nears, not_yet, nears}
use Rattle.machine.proofs.Telling.{Playing, counted, Told, tells_on, done_ends}

-- One port

pub record Withdrawn (g : Ports) (js : List Entry) (i : ℕ) (p : Player) (es : List Entry) (g₂ : Ports) (q : Player) : Type 0 where
  pub playing : Playing g (js ++ es) q.script q.stations g₂
  pub home : kept q i ≡ 0
  pub only : (j : ℕ) → j ≢ i → of_port j es ≡ []
  pub others : (j : ℕ) → j ≢ i → kept q j ≡ kept p j
  pub still : kept p i ≡ 0 → es ≡ []

stays : (g : Ports) (js : List Entry) (i : ℕ) (p : Player) (g₁ : Ports) → Playing g js p.script p.stations g₁ → kept p i ≡ 0 → Withdrawn g js i p [] g₁ p
stays g js i p g₁ pl z = record {
  playing = subst (λ (v : List Entry). Playing g v p.script p.stations g₁) (sym (append-nil js)) pl;
  home = z;
  only = λ j ne. refl;
  others = λ j ne. refl;
  still = λ e. refl;
}

-- what is shown for n letters
abbrev pub Withdraws : ℕ → Type 0
Withdraws n = (g : Ports) (js : List Entry) (i : ℕ) (p : Player) (g₁ : Ports) (es : List Entry) (g₂ : Ports) (q : Player) → Playing g js p.script p.stations g₁ →
    i < length p.stations → ComesHome (port_kind p.script i) (kept p i) n → Plays (withdraw n i p) g₁ es g₂ q → Withdrawn g js i p es g₂ q

withdraw_sends : (n : ℕ) → Withdraws n → (g : Ports) (js : List Entry) (i : ℕ) (p : Player) (g₁ : Ports) (es : List Entry) (g₂ : Ports) (q : Player) → Playing g js p.script p.stations g₁ →
    i < length p.stations → ComesHome (port_kind p.script i) (kept p i) (suc n) → kept p i ≢ 0 →
    Plays (tell p i (retreat_letter p i) >>= (λ got. withdraw n i got.1)) g₁ es g₂ q → Withdrawn g js i p es g₂ q
withdraw_sends n ih g js i p g₁ es g₂ q pl lt near out h =
    let r : Nears p i n = nears p i n near out in
    let w : Told g js p i (retreat_letter p i) (λ got. withdraw n i got.1) es g₂ q = tells_on g js p g₁ i (retreat_letter p i) (λ got. withdraw n i got.1) es g₂ q pl lt r.allowed h in
    let p₁ : Player = with_station p i w.to in
    let now : kept p₁ i ≡ w.to = get_or-set_same p.stations i w.to 0 lt in
    let d : Withdrawn g (js ++ (w.sent ∷ [])) i p₁ w.later g₂ q =
    ih g (js ++ (w.sent ∷ [])) i p₁ w.rig w.later g₂ q w.playing
    (subst (λ x. i < x) (sym (length-set p.stations i w.to)) lt)
    (subst (λ x. ComesHome (port_kind p.script i) x n) (sym now) (r.closer w.answer w.to w.step)) w.rest in
    record {
      playing = subst (λ (x : List Entry). Playing g x q.script q.stations g₂) (append_assoc js (w.sent ∷ []) w.later ∙ ap (λ (x : List Entry). js ++ x) (sym w.all)) d.playing;
      home = d.home;
      only = λ j ne. ap (of_port j) w.all ∙ of_port_append j (w.sent ∷ []) w.later
          ∙ ap (λ (x : List Entry). x ++ of_port j w.later) (one_other j w.sent (λ e. ne (sym e ∙ w.port))) ∙ d.only j ne;
      others = λ j ne. d.others j ne ∙ get_or-set_other p.stations i j w.to 0 ne;
      still = λ z. absurd (out z);
    }

withdraw_steps : (n : ℕ) → Withdraws n → (g : Ports) (js : List Entry) (i : ℕ) (p : Player) (g₁ : Ports) (es : List Entry) (g₂ : Ports) (q : Player) → Playing g js p.script p.stations g₁ →
    i < length p.stations → ComesHome (port_kind p.script i) (kept p i) (suc n) →
    (v : ℕ) → kept p i ≡ v → Plays (retreat_from v (withdraw n i) i p) g₁ es g₂ q → Withdrawn g js i p es g₂ q
withdraw_steps n ih g js i p g₁ es g₂ q pl lt near zero e h = done_ends (Withdrawn g js i p) p g₁ es g₂ q h (stays g js i p g₁ pl e)
withdraw_steps n ih g js i p g₁ es g₂ q pl lt near (suc v) e h = withdraw_sends n ih g js i p g₁ es g₂ q pl lt near (λ z. absurd (omega (arith, z, e))) h

pub withdraws : (n : ℕ) → Withdraws n
withdraws zero g js i p g₁ es g₂ q pl lt near h = elim (ℕ_discrete (kept p i) 0) [
  | yes z ↦ done_ends (Withdrawn g js i p) p g₁ es g₂ q h (stays g js i p g₁ pl z)
  | no out ↦ absurd (not_yet p i near out)
]
withdraws (suc n) g js i p g₁ es g₂ q pl lt near h = withdraw_steps n (withdraws n) g js i p g₁ es g₂ q pl lt near (kept p i) refl h

-- All ports

pub record Exited (g : Ports) (js : List Entry) (p : Player) (is : List ℕ) (es : List Entry) (g₂ : Ports) (q : Player) : Type 0 where
  pub playing : Playing g (js ++ es) q.script q.stations g₂
  pub still : (j : ℕ) → kept p j ≡ 0 → (of_port j es ≡ []) × (kept q j ≡ 0)
  pub few : (j : ℕ) → length (of_port j es) ≤ 15
  pub home : Each (λ j. kept q j ≡ 0) is

exited_more : (g : Ports) (js : List Entry) (i : ℕ) (is : List ℕ) (p p₁ q : Player) (es es₁ es₂ : List Entry) (g₁ g₂ : Ports) → es ≡ es₁ ++ es₂ → length es₁ ≤ 15 →
    Withdrawn g js i p es₁ g₁ p₁ → Exited g (js ++ es₁) p₁ is es₂ g₂ q → Exited g js p (i ∷ is) es g₂ q
exited_more g js i is p p₁ q es es₁ es₂ g₁ g₂ cut short d e = record {
  playing = subst (λ (x : List Entry). Playing g x q.script q.stations g₂) (append_assoc js es₁ es₂ ∙ ap (λ (x : List Entry). js ++ x) (sym cut)) e.playing;
  still = λ j z. still_at j z (ℕ_discrete j i);
  few = λ j. few_at j (ℕ_discrete j i);
  home = ((e.still i d.home).1, e.home);
}
  where
    joined : (j : ℕ) (xs : List Entry) → of_port j es₁ ≡ xs → of_port j es ≡ xs ++ of_port j es₂
    joined j xs h = ap (of_port j) cut ∙ of_port_append j es₁ es₂ ∙ ap (λ (x : List Entry). x ++ of_port j es₂) h

    still_at : (j : ℕ) → kept p j ≡ 0 → Dec (j ≡ i) → (of_port j es ≡ []) × (kept q j ≡ 0)
    still_at j z (yes s) =
        let r = e.still j (ap (kept p₁) s ∙ d.home) in
        (joined j [] (ap (of_port j) (d.still (ap (kept p) (sym s) ∙ z))) ∙ r.0, r.1)
    still_at j z (no ne) = let r = e.still j (d.others j ne ∙ z) in (joined j [] (d.only j ne) ∙ r.0, r.1)

    few_at : (j : ℕ) → Dec (j ≡ i) → length (of_port j es) ≤ 15
    few_at j (yes s) =
        let r = e.still j (ap (kept p₁) s ∙ d.home) in
        let all : of_port j es ≡ of_port j es₁ = joined j (of_port j es₁) refl ∙ ap (λ (x : List Entry). of_port j es₁ ++ x) r.0 ∙ append-nil (of_port j es₁) in
        subst (λ (x : List Entry). length x ≤ 15) (sym all) (omega (arith, of_port_length j es₁, short))
    few_at j (no ne) = subst (λ (x : List Entry). length x ≤ 15) (sym (joined j [] (d.only j ne))) (e.few j)

withdraws_all : (is : List ℕ) (g : Ports) (js : List Entry) (p : Player) (g₁ : Ports) (es : List Entry) (g₂ : Ports) (q : Player) → Playing g js p.script p.stations g₁ →
    Each (λ i. i < length g) is → Plays (withdraw_all is p) g₁ es g₂ q → Exited g js p is es g₂ q
withdraws_all [] g js p g₁ es g₂ q pl lt h = done_ends (Exited g js p []) p g₁ es g₂ q h (record {
  playing = subst (λ (v : List Entry). Playing g v p.script p.stations g₁) (sym (append-nil js)) pl;
  still = λ j z. (refl, z);
  few = λ j. omega arith;
  home = tt;
})
withdraws_all (i ∷ is) g js p g₁ es g₂ q pl lt h =
    let w = split (withdraw 15 i p) (λ x. withdraw_all is x) g₁ es g₂ q h in
    let d : Withdrawn g js i p w.2 w.1 w.0 =
    withdraws 15 g js i p g₁ w.2 w.1 w.0 pl (subst (λ n. i < n) (sym (counted g js p.script p.stations g₁ pl)) lt.0)
    (comes p.script p.stations pl.held i) w.4 in
    exited_more g js i is p w.0 q es w.2 w.3 w.1 g₂ w.6 (few_plays 15 _ (withdraw_few 15 i (length p.stations) p refl) w.4) d
    (withdraws_all is g (js ++ w.2) w.0 w.1 w.3 g₂ q d.playing lt.1 w.5)

-- The whole exit

-- over, with every port away
pub record Resting (g : Ports) (js : List Entry) (p : Player) (g₁ : Ports) : Type 0 where
  pub over : p.over ≡ true
  pub within : Each (λ e. e.port < length g) js
  pub ports : AtPorts (PortSo js) g g₁
  pub home : AllAway g₁

-- a player whose stations are all away may end
pub rests : (g : Ports) (js : List Entry) (p q : Player) (g₁ : Ports) → Playing g js q.script q.stations g₁ → ((i : ℕ) → kept q i ≡ 0) → p.over ≡ true → Resting g js p g₁
rests g js p q g₁ pl z e = record {
  over = e;
  within = pl.within;
  ports = at_map (Live q.script q.stations js) (PortSo js) g g₁ (λ i m m' lv. lv.so) pl.ports;
  home = at_all (Live q.script q.stations js) (λ m. m.station ≡ 0) g g₁ (λ i m m' lv. lv.station ∙ z i) pl.ports;
}

abbrev pub Gone : Ports → List Entry → Player → Ports → List Entry → Type 0
Gone g js p g₂ es = Resting g (js ++ es) p g₂ × ShortExit js es

pub exits : (g : Ports) (js : List Entry) (p : Player) (g₁ : Ports) (es : List Entry) (g₂ : Ports) (q : Player) → Playing g js p.script p.stations g₁ →
    Plays (fault_exit p) g₁ es g₂ q → Gone g js q g₂ es
exits g js p g₁ es g₂ q pl h =
    let n : ℕ = length p.stations in
    let w = split (withdraw_all (from 0 n) p) (λ x. done (finished x)) g₁ es g₂ q h in
    let u = unfolds w.5 in
    let es-is : es ≡ w.2 = w.6 ∙ ap (λ (x : List Entry). w.2 ++ x) u.0 ∙ append-nil w.2 in
    let len : n ≡ length g = counted g js p.script p.stations g₁ pl in
    let d : Exited g js p (from 0 n) w.2 w.1 w.0 =
    withdraws_all (from 0 n) g js p g₁ w.2 w.1 w.0 pl (each_from (λ i. i < length g) 0 n (λ i le lt. omega (arith, len))) w.4 in
    let len' : length w.0.stations ≡ length g = counted g (js ++ w.2) w.0.script w.0.stations w.1 d.playing in
    let away : (i : ℕ) → kept w.0 i ≡ 0 = λ i. elim (dec_lt i n) [
      | yes lt ↦ from_each (λ j. kept w.0 j ≡ 0) 0 n i d.home (omega arith) (omega arith)
      | no nl ↦ get_or-eq_default w.0.stations 0 {n = i} (omega (arith, nl, len, len'))
    ] in
    subst₃ (λ (x : List Entry) (y : Ports) (r : Player). Gone g js r y x) (sym es-is) (sym u.1) (sym u.2) (
      rests g (js ++ w.2) (finished w.0) w.0 w.1 d.playing away refl,
      (λ i. (d.few i, λ last. (d.still i (at_away i last (dec_lt i n))).0)),
    )
  where
    at_away : (i : ℕ) → last_station 0 (of_port i js) ≡ 0 → Dec (i < length p.stations) → kept p i ≡ 0
    at_away i last (yes lt) =
        let at = port_at (Live p.script p.stations js) g g₁ i (subst (λ n. i < n) (counted g js p.script p.stations g₁ pl) lt) pl.ports in
        sym at.2.station ∙ sym (path_last at.0.table 0 at.1.station (of_port i js) at.2.so.followed.legal) ∙ last
    at_away i last (no nl) = get_or-eq_default p.stations 0 {n = i} (omega (arith, nl))
