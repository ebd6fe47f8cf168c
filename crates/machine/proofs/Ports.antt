-- What holds at every port of a rig, and what a letter does to it.
use Rattle.std.proofs.Common.{◌≡◌, ℕ, zero, suc, ◌<◌, ◌≢◌, List, [], ◌∷◌, ◌++◌, length, get_or, set, Some, sym, refl, ap, ◌∙◌, subst, subst₂, append-nil, le_of_suc-le-suc, arith, length-set, get_or-set_other, get_or-set_same}
use Rattle.protocol.specs.declared.edges.Entry.{Entry}
use Rattle.protocol.specs.Lists.{Each}
use Rattle.protocol.specs.Paths.{of_port}
use Rattle.protocol.specs.Tables.{Allowed, Ranged, Table}
use Rattle.protocol.proofs.Tests.{some_same}
use Rattle.device.specs.Meaning.{Hears, Meaning, moved}
use Rattle.device.specs.Ports.{Ports, RigHears, here, missing, station_at, there}
use Rattle.rules.specs.Script.{Script}
use Rattle.machine.specs.Dialogue.{entry}
use Rattle.machine.specs.Player.{port_table}
use Rattle.machine.specs.Promise.{AtPorts}
use Rattle.machine.proofs.Dialogues.{Moved, allowed_moves}
use Rattle.machine.proofs.Entries.{Followed, follows_more, of_port_append, one_here, one_other}

-- Every port at once

pub at_map : (P Q : ℕ → Meaning → Meaning → Type 0) (g g' : Ports) → ((i : ℕ) (m m' : Meaning) → P i m m' → Q i m m') → AtPorts P g g' → AtPorts Q g g'
at_map P Q [] [] f h = tt
at_map P Q [] (m ∷ g') f h = h
at_map P Q (m ∷ g) [] f h = h
at_map P Q (m ∷ g) (m' ∷ g') f h = (f zero m m' h.0, at_map (λ i. P (suc i)) (λ i. Q (suc i)) g g' (λ i. f (suc i)) h.1)

pub at_all : (P : ℕ → Meaning → Meaning → Type 0) (Q : Meaning → Type 0) (g g' : Ports) → ((i : ℕ) (m m' : Meaning) → P i m m' → Q m') → AtPorts P g g' → Each Q g'
at_all P Q [] [] f h = tt
at_all P Q [] (m ∷ g') f h = absurd h
at_all P Q (m ∷ g) [] f h = tt
at_all P Q (m ∷ g) (m' ∷ g') f h = (f zero m m' h.0, at_all (λ i. P (suc i)) Q g g' (λ i. f (suc i)) h.1)

pub at_both : (P Q : ℕ → Meaning → Meaning → Type 0) (R : Meaning → Type 0) (g g' : Ports) → ((i : ℕ) (m m' : Meaning) → P i m m' → R m' → Q i m m') → AtPorts P g g' → Each R g' → AtPorts Q g g'
at_both P Q R [] [] f h r = tt
at_both P Q R [] (m ∷ g') f h r = h
at_both P Q R (m ∷ g) [] f h r = h
at_both P Q R (m ∷ g) (m' ∷ g') f h r = (f zero m m' h.0 r.0, at_both (λ i. P (suc i)) (λ i. Q (suc i)) R g g' (λ i. f (suc i)) h.1 r.1)

pub at_same : (P : ℕ → Meaning → Meaning → Type 0) (R : Meaning → Type 0) (g : Ports) → ((i : ℕ) (m : Meaning) → R m → P i m m) → Each R g → AtPorts P g g
at_same P R [] f r = tt
at_same P R (m ∷ g) f r = (f zero m r.0, at_same (λ i. P (suc i)) R g (λ i. f (suc i)) r.1)

pub at_length : (P : ℕ → Meaning → Meaning → Type 0) (g g' : Ports) → AtPorts P g g' → length g ≡ length g'
at_length P [] [] h = refl
at_length P [] (m ∷ g') h = absurd h
at_length P (m ∷ g) [] h = absurd h
at_length P (m ∷ g) (m' ∷ g') h = ap suc (at_length (λ i. P (suc i)) g g' h.1)

pub port_at : (P : ℕ → Meaning → Meaning → Type 0) (g g₁ : Ports) (i : ℕ) → i < length g → AtPorts P g g₁ → (m : Meaning) × (m' : Meaning) × P i m m'
port_at P [] g₁ i lt at = absurd (omega arith)
port_at P (m ∷ g) [] i lt at = absurd at
port_at P (m ∷ g) (m' ∷ g₁) zero lt at = (m, m', at.0)
port_at P (m ∷ g) (m' ∷ g₁) (suc i) lt at = port_at (λ j. P (suc j)) g g₁ i (le_of_suc-le-suc lt) at.1

-- A letter

rig_length : {g g' : Ports} {i l a : ℕ} → RigHears g i l a g' → length g ≡ length g'
rig_length (here h) = refl
rig_length (there h) = ap suc (rig_length h)
rig_length missing = refl

at_letter : (P Q : ℕ → Meaning → Meaning → Type 0) (g : Ports) {g₁ : Ports} {i l a : ℕ} {g₂ : Ports} → RigHears g₁ i l a g₂ →
    ((j : ℕ) (m m' : Meaning) → j ≢ i → P j m m' → Q j m m') →
    ((m m' m'' : Meaning) → P i m m' → Hears m' l a m'' → station_at g₂ i ≡ m''.station → Q i m m'') →
    AtPorts P g g₁ → AtPorts Q g g₂
at_letter P Q [] (here h) other hit at = at
at_letter P Q (m₀ ∷ g) (here {m = m} {m' = m'} {g = r} h) other hit at =
    (hit m₀ m m' at.0 h refl, at_map (λ i. P (suc i)) (λ i. Q (suc i)) g r (λ j n n'. other (suc j) n n' (λ e. absurd (omega (arith, e)))) at.1)
at_letter P Q [] (there h) other hit at = at
at_letter P Q (m₀ ∷ g) (there {m = m} {p = i} h) other hit at = (
  other zero m₀ m (λ e. absurd (omega (arith, e))) at.0,
  at_letter (λ j. P (suc j)) (λ j. Q (suc j)) g h (λ j n n' ne. other (suc j) n n' (λ e. ne (omega (arith, e)))) hit at.1,
)
at_letter P Q [] missing other hit at = tt
at_letter P Q (m₀ ∷ g) missing other hit at = at

port_heard : (P : ℕ → Meaning → Meaning → Type 0) (g : Ports) {g₁ : Ports} {i l a : ℕ} {g₂ : Ports} → RigHears g₁ i l a g₂ → i < length g₁ → AtPorts P g g₁ →
    (m : Meaning) × (m' : Meaning) × (m'' : Meaning) × P i m m' × Hears m' l a m''
port_heard P [] (here h) lt at = absurd at
port_heard P (m₀ ∷ g) (here {m = m} {m' = m'} h) lt at = (m₀, m, m', at.0, h)
port_heard P [] (there h) lt at = absurd at
port_heard P (m₀ ∷ g) (there h) lt at = port_heard (λ j. P (suc j)) g h (le_of_suc-le-suc lt) at.1
port_heard P g missing lt at = absurd (omega arith)

-- Ports and a player

-- a port after the joined log
pub record PortSo (js : List Entry) (i : ℕ) (m m' : Meaning) : Type 0 where
  pub followed : Followed m m' (of_port i js)
  pub ranged : Ranged m.table

-- and as a player over the script keeps it, with those stations
pub record Live (s : Script) (st : List ℕ) (js : List Entry) (i : ℕ) (m m' : Meaning) : Type 0 where
  pub so : PortSo js i m m'
  pub table : (v l a : ℕ) → m.table v l a ≡ port_table s i v l a
  pub station : m'.station ≡ get_or st i 0

live_moves : (s : Script) (st : List ℕ) (js : List Entry) (i l a : ℕ) (m m' m'' : Meaning) → Allowed (port_table s i) (get_or st i 0) l → Live s st js i m m' → Hears m' l a m'' →
    (t : ℕ) × (port_table s i (get_or st i 0) l a ≡ Some t) × (m'' ≡ moved m' l a t) × (m.table m'.station l a ≡ Some t)
live_moves s st js i l a m m' m'' ok lv h =
    let row : (x : ℕ) → m'.table m'.station l x ≡ m.table m'.station l x = λ x. ap (λ (T : Table). T m'.station l x) lv.so.followed.heard.table in
    let row' : (x : ℕ) → m.table m'.station l x ≡ port_table s i (get_or st i 0) l x = λ x. lv.table m'.station l x ∙ ap (λ v. port_table s i v l x) lv.station in
    let mv : Moved m' l a m'' = allowed_moves h (ok.0, ok.1, row ok.0 ∙ row' ok.0 ∙ ok.2) in
    (mv.0, sym (row' a) ∙ sym (row a) ∙ mv.1, mv.2, sym (row a) ∙ mv.1)

other_live : (s : Script) (st : List ℕ) (js : List Entry) (i t : ℕ) (e : Entry) → e.port ≡ i → (j : ℕ) (m m' : Meaning) → j ≢ i → Live s st js j m m' → Live s (set st i t) (js ++ (e ∷ [])) j m m'
other_live s st js i t e at j m m' ne lv =
    let same : get_or st j 0 ≡ get_or (set st i t) j 0 = sym (get_or-set_other st i j t 0 ne) in
    let none : of_port j (js ++ (e ∷ [])) ≡ of_port j js = of_port_append j js (e ∷ []) ∙ ap (λ (r : List Entry). of_port j js ++ r) (one_other j e (λ h. ne (sym h ∙ at))) ∙ append-nil (of_port j js) in
    record {
      so = record { followed = subst (Followed m m') (sym none) lv.so.followed; ranged = lv.so.ranged };
      table = lv.table;
      station = lv.station ∙ same;
    }

-- the port itself, at the station to which the answer led
hit_live : (s : Script) (st : List ℕ) (js : List Entry) (i l a t : ℕ) (m m' : Meaning) → i < length st → m.table m'.station l a ≡ Some t → Live s st js i m m' →
    Live s (set st i t) (js ++ (entry i l a t ∷ [])) i m (moved m' l a t)
hit_live s st js i l a t m m' lt led lv =
    let now : get_or (set st i t) i 0 ≡ t = get_or-set_same st i t 0 lt in
    let more : of_port i js ++ (entry i l a t ∷ []) ≡ of_port i (js ++ (entry i l a t ∷ [])) =
    ap (λ (r : List Entry). of_port i js ++ r) (sym (one_here i (entry i l a t) refl)) ∙ sym (of_port_append i js (entry i l a t ∷ [])) in
    record {
      so = record { followed = subst (Followed m (moved m' l a t)) more (follows_more m m' (of_port i js) (entry i l a t) lv.so.ranged lv.so.followed led); ranged = lv.so.ranged };
      table = lv.table;
      station = sym now;
    }

abbrev pub Lands : Script → List ℕ → List Entry → Ports → ℕ → ℕ → ℕ → Ports → Type 0
Lands s st js g i l a g₂ =
    (t : ℕ) × (port_table s i (get_or st i 0) l a ≡ Some t) × (length (set st i t) ≡ length g₂)
    × AtPorts (Live s (set st i t) (js ++ (entry i l a (station_at g₂ i) ∷ []))) g g₂

-- an allowed letter lands where the player's table done, and all else stays
pub lands : (s : Script) (st : List ℕ) (js : List Entry) (g g₁ g₂ : Ports) (i l a : ℕ) → i < length st → length st ≡ length g₁ →
    Allowed (port_table s i) (get_or st i 0) l → RigHears g₁ i l a g₂ → AtPorts (Live s st js) g g₁ → Lands s st js g i l a g₂
lands s st js g g₁ g₂ i l a lt len ok h at =
    let w = port_heard (Live s st js) g h (subst (λ n. i < n) len lt) at in
    let mv = live_moves s st js i l a w.0 w.1 w.2 ok w.3 w.4 in
    let t : ℕ = mv.0 in (
      t,
      mv.1,
      length-set st i t ∙ len ∙ rig_length h,
      at_letter (Live s st js) (Live s (set st i t) (js ++ (entry i l a (station_at g₂ i) ∷ []))) g h
          (other_live s st js i t (entry i l a (station_at g₂ i)) refl)
          (λ m m' m'' lv hm stn.
          let mv' = live_moves s st js i l a m m' m'' ok lv hm in
          let same : mv'.0 ≡ t = some_same (sym mv'.1 ∙ mv.1) in
          let m-is : moved m' l a t ≡ m'' = ap (moved m' l a) (sym same) ∙ sym mv'.2 in
          let s-is : t ≡ station_at g₂ i = ap (λ (x : Meaning). x.station) m-is ∙ sym stn in
          subst₂ (λ (v : ℕ) (x : Meaning). Live s (set st i t) (js ++ (entry i l a v ∷ [])) i m x) s-is m-is
          (hit_live s st js i l a t m m' lt (mv'.3 ∙ ap Some same) lv))
          at,
    )
