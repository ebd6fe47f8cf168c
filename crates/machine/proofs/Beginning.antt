-- Begin, from a rig that is away: the player's ports stand as their devices, and main's body is typed.
use Rattle.std.proofs.Common.{◌≡◌, ℕ, zero, suc, ◌+◌, ◌-◌, ◌<◌, Bool, true, eqb, List, [], ◌∷◌, ◌++◌, length, get_or, replicate, Ok, sym, refl, ap, ◌∙◌, subst, inl, arith, length-append}
use native.Mathlib.Decide.{dec_lt}
use lib.ListN.{length-replicate, get_or-append, get_or-eq_default}
use Rattle.faults.specs.declared.causes.StageCause.{StageCause}
use Rattle.faults.specs.declared.causes.StageCause.TheVariants.{NotOver, OtherCount, OtherTable, NotAway}
use Rattle.faults.specs.Numbers.{nowhere, stage_fault}
use Rattle.faults.specs.Results.{need}
use Rattle.faults.proofs.Results.{ok_same, bound, needed}
use Rattle.protocol.specs.declared.edges.Entry.{Entry}
use Rattle.protocol.specs.Tables.{Table, Ranged, same_table, table_of}
use Rattle.protocol.proofs.Tests.{same_number}
use Rattle.book.specs.Kinds.{Kind, no_kind}
use Rattle.device.specs.Meaning.{Meaning}
use Rattle.device.specs.Ports.{Ports}
use Rattle.rules.specs.Lists.{from}
use Rattle.rules.specs.Script.{Part, no_part, main_of, Script, at}
use Rattle.rules.specs.Check.{Passed}
use Rattle.rules.proofs.Lists.{length_from, getD_from}
use Rattle.rules.proofs.Reading.{PartSo}
use Rattle.rules.proofs.Books.{passed_ranged}
use Rattle.rules.proofs.Scripts.{ScriptSo, passed_so}
use Rattle.machine.specs.Player.{Player, main, begun, port_table}
use Rattle.machine.specs.Calls.{each_port, table_fits, begin}
use Rattle.machine.specs.Promise.{AtPorts}
use Rattle.machine.proofs.Ports.{at_map, at_both, at_length, PortSo, Live}
use Rattle.machine.proofs.Held.{Homeward, passed_homeward, Held}
use Rattle.machine.proofs.Exits.{Resting}
use Rattle.machine.proofs.Open.{Placed, placed_main, Open}
use Rattle.machine.proofs.Typed.{Typed, Stack}
use Rattle.machine.proofs.Going.{Begun}
use Rattle.machine.proofs.Tables.{tables_same}

-- a test that every port passes
test_at : (P : ℕ → Meaning → Meaning → Type 0) (cause : StageCause) (test : ℕ → Meaning → Bool) (n : ℕ) (g g₁ : Ports) (u : Unit {0}) → each_port cause test n g₁ ≡ Ok u →
    AtPorts P g g₁ → AtPorts (λ i m m'. P i m m' × (test (n + i) m' ≡ true)) g g₁
test_at P cause test n [] [] u e h = tt
test_at P cause test n [] (m ∷ g₁) u e h = h
test_at P cause test n (m ∷ g) [] u e h = h
test_at P cause test n (m ∷ g) (m' ∷ g₁) u e h =
    let c = bound (need (test n m') (stage_fault cause n)) (λ _. each_port cause test (suc n) g₁) u e in (
      (h.0, subst (λ k. test k m' ≡ true) (omega arith) (needed (test n m') (stage_fault cause n) c.0 c.1)),
      at_map (λ i a b. P (suc i) a b × (test (suc n + i) b ≡ true)) (λ i a b. P (suc i) a b × (test (n + suc i) b ≡ true)) g g₁
          (λ i a b w. (w.0, subst (λ k. test k b ≡ true) (omega arith) w.1))
          (test_at (λ i. P (suc i)) cause test (suc n) g g₁ u c.2 h.1),
    )

-- Main

zeros : (n i : ℕ) → ◌≡◌ {A = ℕ} (get_or (replicate n 0) i 0) 0
zeros zero i = refl
zeros (suc n) zero = refl
zeros (suc n) (suc i) = zeros n i

last_is : (p : Part) (ps : List Part) → main_of (p ∷ ps) ≡ get_or (p ∷ ps) (length ps) no_part
last_is p [] = refl
last_is p (q ∷ ps) = last_is q ps

main_typed : (s : Script) → ScriptSo s → (k : ℕ) → suc k ≡ length s.parts → main s ≡ get_or s.parts k no_part → Stack s (begun s).frames (begun s).stations
main_typed s so k last e =
    subst (λ (m : Part). Typed s (record { block = m.body; ports = from 0 m.handles ++ replicate (8 - m.handles) 255 }) (replicate m.handles 0) 0 (λ st. (i : ℕ) → get_or st i 0 ≡ 0)) (sym e) (record {
      place = placed_main s so k last;
      keys = M.ins;
      ends = M.outs;
      wide = λ h hl. omega (arith, hl, length-append (from 0 n) (replicate (8 - n) 255), length_from 0 n);
      kinds = λ h hl. ap (λ (m : Part). get_or m.kinds h 0) (sym e) ∙ ap (λ v. get_or (main s).kinds v 0) (sym (port_is h hl));
      derived = so.derived k lt;
      holds = record {
        eight = λ h hl. omega (arith, hl, part.few, part.ins);
        present = λ h hl. omega (arith, port_is h hl, length-replicate {A = ℕ} n 0, hl);
        stations = λ h hl. zeros n (get_or (from 0 n ++ replicate (8 - n) 255) h 0) ∙ sym (away h hl).0;
        apart = λ h j hl jl q. sym (port_is h hl) ∙ q ∙ port_is j jl;
      };
      below = λ st hs el i. elim (dec_lt i n) [
        | yes il ↦ ap (λ v. get_or st v 0) (sym (port_is i il)) ∙ hs.stations i il ∙ (away i il).1
        | no nl ↦ get_or-eq_default st 0 {n = i} (omega (arith, nl, el.count, length-replicate {A = ℕ} n 0))
      ];
    })
  where
    lt : k < length s.parts
    lt = omega (arith, last)

    M : Part
    M = get_or s.parts k no_part

    n : ℕ
    n = M.handles

    part : PartSo (get_or s.parts k no_part)
    part = so.parts k lt

    port_is : (h : ℕ) → h < n → get_or (from 0 n ++ replicate (8 - n) 255) h 0 ≡ h
    port_is h hl = get_or-append (from 0 n) (replicate (8 - n) 255) 0 h (omega (arith, hl, length_from 0 n)) ∙ getD_from 0 n h 0 hl ∙ omega arith

    away : (h : ℕ) → h < n → (at M.ins h ≡ 0) × (at M.outs h ≡ 0)
    away = subst (λ (m : Part). (h : ℕ) → h < m.handles → (at m.ins h ≡ 0) × (at m.outs h ≡ 0)) e so.main

pub begun_typed : (b : List Kind) (ps : List Part) → ScriptSo (record { book = b; parts = ps }) → 0 < (main_of ps).handles →
    Stack (record { book = b; parts = ps }) (begun (record { book = b; parts = ps })).frames (begun (record { book = b; parts = ps })).stations
begun_typed b [] so lt = absurd (omega arith)
begun_typed b (p ∷ ps) so lt = main_typed (record { book = b; parts = p ∷ ps }) so (length ps) refl (last_is p ps)

pub begun_open : (b : List Kind) (ps : List Part) → ScriptSo (record { book = b; parts = ps }) → 0 < length ps → Open (record { book = b; parts = ps }) (begun (record { book = b; parts = ps })).frames
begun_open b [] so lt = absurd (omega arith)
begun_open b (p ∷ ps) so lt =
    let s : Script = record { book = b; parts = p ∷ ps } in
    (subst (λ (m : Part). Placed s m.body 0) (sym (last_is p ps)) (placed_main s so (length ps) refl), tt)

pub begun_held : (s : Script) → Homeward s.book → Held s (begun s).stations
begun_held s homeward = record { homeward = homeward; named = λ i. inl (zeros (main s).handles i) }

-- Begin

begins_live : (s : Script) (n : ℕ) (js : List Entry) → ((k : ℕ) → Ranged (table_of (get_or s.book k no_kind).edges)) → (i : ℕ) (m m' : Meaning) →
    PortSo js i m m' × (table_fits (begun s) (0 + i) m' ≡ true) → m'.station ≡ 0 → Live s (replicate n 0) js i m m'
begins_live s n js ranged i m m' w z =
    let so : PortSo js i m m' = w.0 in
    let fits : same_table m'.table (port_table s i) ≡ true = subst (λ k. table_fits (begun s) k m' ≡ true) (omega arith) w.1 in
    record {
      so = so;
      table = tables_same m.table (port_table s i) so.ranged (ranged (get_or (main s).kinds i 0)) (subst (λ (T : Table). same_table T (port_table s i) ≡ true) so.followed.heard.table fits);
      station = z ∙ sym (zeros n i);
    }

pub begins_well : (g : Ports) (js : List Entry) (p : Player) (g₁ : Ports) (s : Script) (q : Player) → 0 < length g → Passed s →
    Resting g js p g₁ → begin p s g₁ ≡ Ok q → Begun g js q g₁
begins_well g js p g₁ s q pos passed r e =
    let c = bound (need p.over (stage_fault NotOver nowhere)) _ q e in
    let c1 = bound (need (eqb (main s).handles (length g₁)) (stage_fault OtherCount nowhere)) _ q c.2 in
    let c2 = bound (each_port OtherTable (table_fits (begun s)) 0 g₁) _ q c1.2 in
    let c3 = bound (each_port NotAway (λ i m. eqb m.station 0) 0 g₁) _ q c2.2 in
    let same : (main s).handles ≡ length g₁ = same_number (main s).handles (length g₁) (needed (eqb (main s).handles (length g₁)) (stage_fault OtherCount nowhere) c1.0 c1.1) in
    let so : ScriptSo s = passed_so s passed in
    subst (λ (x : Player). Begun g js x g₁) (ok_same c3.2) (record {
      going = refl;
      script = so;
      playing = record {
        held = begun_held s (passed_homeward passed.0 s.book passed.2);
        within = r.within;
        count = length-replicate {A = ℕ} (main s).handles 0 ∙ same;
        ports = at_both (λ i m m'. PortSo js i m m' × (table_fits (begun s) (0 + i) m' ≡ true)) (Live s (replicate (main s).handles 0) js) (λ m. m.station ≡ 0) g g₁
            (begins_live s (main s).handles js (passed_ranged passed.0 s.book passed.2)) (test_at (PortSo js) OtherTable (table_fits (begun s)) 0 g g₁ c2.0 c2.1 r.ports) r.home;
      };
      stack = begun_typed s.book s.parts so (omega (arith, same, pos, at_length (PortSo js) g g₁ r.ports));
    })
