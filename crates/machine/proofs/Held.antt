-- What a player's stations have, whatever the rig: from each of them retreat letters lead home.
use Rattle.std.proofs.Common.{◌≡◌, ℕ, zero, suc, ◌<◌, ◌≤◌, ◌≢◌, ◌⊎◌, List, length, get_or, set, Some, Ok, sym, refl, ap, ◌∙◌, subst, inr, le_of_suc-le-suc, arith, get_or-set_other, get_or-set_same}
use native.Mathlib.Decide.{ℕ_discrete}
use Rattle.protocol.specs.Tables.{Allowed, leads, table_of}
use Rattle.protocol.proofs.Lists.{in_some}
use Rattle.protocol.proofs.Firsts.{first_found}
use Rattle.book.specs.declared.automaton.Retreat.{Retreat}
use Rattle.book.specs.Kinds.{Kind, no_kind, retreat_of}
use Rattle.book.specs.Reading.{read_book}
use Rattle.book.specs.Home.{Named, ComesHome, is_away, retreats}
use Rattle.book.proofs.Home.{leads_home}
use Rattle.rules.specs.Script.{Script}
use Rattle.machine.specs.Player.{Player, main, port_kind, port_table, kept}
use Rattle.machine.specs.Exits.{retreat_letter}

-- Kinds

comes_later : (k : Kind) {s n : ℕ} (m : ℕ) → n ≤ m → ComesHome k s n → ComesHome k s m
comes_later k m le (is_away n) = is_away m
comes_later k zero le (retreats s n r e ok next) = absurd (omega (arith, le))
comes_later k (suc m) le (retreats s n r e ok next) = retreats s m r e ok (λ a t q. comes_later k m (le_of_suc-le-suc le) (next a t q))

-- an edge leads to a named station
named_to : (k : Kind) (s l a t : ℕ) → table_of k.edges s l a ≡ Some t → Named k t
named_to k s l a t q =
    let w = first_found (λ e. leads e s l a) (λ e. e.to) k.edges t q in
    inr (in_some (λ e. (e.from ≡ t) ⊎ (e.to ≡ t)) k.edges w.0 w.1 (inr w.3))

-- in every kind of the book, named stations come home
abbrev pub Homeward : List Kind → Type 0
Homeward book = (k s : ℕ) → Named (get_or book k no_kind) s → ComesHome (get_or book k no_kind) s 15

pub passed_homeward : (bb : List ℕ) (book : List Kind) → read_book bb ≡ Ok book → Homeward book
passed_homeward bb book e k s named = let w = leads_home bb book e k s named in comes_later (get_or book k no_kind) 15 w.1 w.0

-- Stations

pub record Held (s : Script) (st : List ℕ) : Type 0 where
  pub homeward : Homeward s.book
  pub named : (i : ℕ) → Named (port_kind s i) (get_or st i 0)

pub comes : (s : Script) (st : List ℕ) → Held s st → (i : ℕ) → ComesHome (port_kind s i) (get_or st i 0) 15
comes s st h i = h.homeward (get_or (main s).kinds i 0) (get_or st i 0) (h.named i)

-- a declared answer leads to such a station
pub held_moved : (s : Script) (st : List ℕ) (i l a t : ℕ) → Held s st → i < length st → port_table s i (get_or st i 0) l a ≡ Some t → Held s (set st i t)
held_moved s st i l a t h lt step = record { homeward = h.homeward; named = λ j. by_case j (ℕ_discrete j i) }
  where
    by_case : (j : ℕ) → Dec (j ≡ i) → Named (port_kind s j) (get_or (set st i t) j 0)
    by_case j (yes e) =
        subst (λ v. Named (port_kind s v) (get_or (set st i t) v 0)) (sym e)
        (subst (Named (port_kind s i)) (sym (get_or-set_same st i t 0 lt)) (named_to (port_kind s i) (get_or st i 0) l a t step))
    by_case j (no ne) = subst (Named (port_kind s j)) (sym (get_or-set_other st i j t 0 ne)) (h.named j)

-- Retreats

-- the port's retreat letter is allowed, and whatever its answer leads closer to home
pub record Nears (p : Player) (i n : ℕ) : Type 0 where
  pub allowed : Allowed (port_table p.script i) (kept p i) (retreat_letter p i)
  pub closer : (a t : ℕ) → port_table p.script i (kept p i) (retreat_letter p i) a ≡ Some t → ComesHome (port_kind p.script i) t n

abbrev Onward : Kind → ℕ → ℕ → Type 0
Onward k s zero = ⊥
Onward k s (suc n) =
    (r : Retreat) × (retreat_of k.retreats s ≡ Some r) × Allowed (table_of k.edges) s r.letter
    × ((a t : ℕ) → table_of k.edges s r.letter a ≡ Some t → ComesHome k t n)

onward : {k : Kind} {s n : ℕ} → ComesHome k s n → s ≢ 0 → Onward k s n
onward (is_away n) out = absurd (out refl)
onward (retreats s n r e ok next) out = (r, e, ok, next)

pub not_yet : (p : Player) (i : ℕ) → ComesHome (port_kind p.script i) (kept p i) 0 → kept p i ≢ 0 → ⊥
not_yet p i c out = onward c out

-- a port that is not away has one
pub nears : (p : Player) (i n : ℕ) → ComesHome (port_kind p.script i) (kept p i) (suc n) → kept p i ≢ 0 → Nears p i n
nears p i n c out =
    let w : Onward (port_kind p.script i) (kept p i) (suc n) = onward c out in
    let letter : retreat_letter p i ≡ w.0.letter = rw (w.1, retreat_letter) in
    record {
      allowed = subst (λ l. Allowed (port_table p.script i) (kept p i) l) (sym letter) w.2;
      closer = λ a t step. w.3 a t (ap (λ l. port_table p.script i (kept p i) l a) (sym letter) ∙ step);
    }
