-- A letter that a player tells to one of its ports: it lands, and every port stays as the player keeps it.
use Rattle.std.proofs.Common.{◌≡◌, ℕ, ◌<◌, List, [], ◌∷◌, ◌++◌, length, set, Some, unwrap_or, sym, refl, ap, ◌∙◌, subst}
use mathlib.Core.Path.{subst₃}
use Rattle.protocol.specs.declared.edges.Entry.{Entry}
use Rattle.protocol.specs.Lists.{Each}
use Rattle.protocol.specs.Tables.{Allowed}
use Rattle.protocol.proofs.Lists.{each_join}
use Rattle.device.specs.Ports.{Ports, station_at}
use Rattle.rules.specs.Script.{Script}
use Rattle.machine.specs.Dialogue.{entry, Dialogue, Plays, ◌>>=◌, done}
use Rattle.machine.specs.Player.{Player, port_table, kept, tell, with_station}
use Rattle.machine.specs.Promise.{AtPorts}
use Rattle.machine.proofs.Dialogues.{unfolds}
use Rattle.machine.proofs.Ports.{Lands, Live, at_length, lands}
use Rattle.machine.proofs.Held.{Held, held_moved}

-- A player's ports

-- every port is as a player with the script and the stations keeps it
pub record Playing (g : Ports) (js : List Entry) (s : Script) (st : List ℕ) (g₁ : Ports) : Type 0 where
  pub held : Held s st
  pub count : length st ≡ length g₁
  pub within : Each (λ e. e.port < length g) js
  pub ports : AtPorts (Live s st js) g g₁

pub counted : (g : Ports) (js : List Entry) (s : Script) (st : List ℕ) (g₁ : Ports) → Playing g js s st g₁ → length st ≡ length g
counted g js s st g₁ y = y.count ∙ sym (at_length (Live s st js) g g₁ y.ports)

-- A letter that the player tells

pub record Told {Y : Type 0} (g : Ports) (js : List Entry) (p : Player) (i l : ℕ) (f : ℕ × Player → Dialogue Y) (es : List Entry) (g₂ : Ports) (y : Y) : Type 0 where
  pub answer : ℕ
  pub to : ℕ
  pub step : port_table p.script i (kept p i) l answer ≡ Some to
  pub rig : Ports
  pub sent : Entry
  pub later : List Entry
  pub port : sent.port ≡ i
  pub all : es ≡ sent ∷ later
  pub playing : Playing g (js ++ (sent ∷ [])) p.script (set p.stations i to) rig
  pub rest : Plays (f (answer, with_station p i to)) rig later g₂ y

pub tells_on : {Y : Type 0} (g : Ports) (js : List Entry) (p : Player) (g₁ : Ports) (i l : ℕ) (f : ℕ × Player → Dialogue Y) (es : List Entry) (g₂ : Ports) (y : Y) →
    Playing g js p.script p.stations g₁ → i < length p.stations → Allowed (port_table p.script i) (kept p i) l →
    Plays (tell p i l >>= f) g₁ es g₂ y → Told g js p i l f es g₂ y
tells_on g js p g₁ i l f es g₂ y pl lt ok h =
    let u = unfolds h in
    let a : ℕ = u.0 in
    let w : Lands p.script p.stations js g i l a u.1 =
    lands p.script p.stations js g g₁ u.1 i l a lt pl.count ok u.3 pl.ports in
    let sent : Entry = entry i l a (station_at u.1 i) in
    record {
      answer = a;
      to = w.0;
      step = w.1;
      rig = u.1;
      sent = sent;
      later = u.2;
      port = refl;
      all = u.5;
      playing = record {
        held = held_moved p.script p.stations i l a w.0 pl.held lt w.1;
        count = w.2;
        within = each_join (λ e. e.port < length g) js (sent ∷ []) pl.within (subst (λ n. i < n) (counted g js p.script p.stations g₁ pl) lt, tt);
        ports = w.3;
      };
      rest = subst (λ t. Plays (f (a, with_station p i t)) u.1 u.2 g₂ y) (ap (λ o. unwrap_or o 16) w.1) u.4;
    }

pub done_ends : {X : Type 0} (P : List Entry → Ports → X → Type 0) (x : X) (g : Ports) (es : List Entry) (g₂ : Ports) (y : X) → Plays (done x) g es g₂ y → P [] g x → P es g₂ y
done_ends P x g es g₂ y h r = let u = unfolds h in subst₃ P (sym u.0) (sym u.1) (sym u.2) r
