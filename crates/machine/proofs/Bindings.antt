-- RUN: a part whose handles are bound to handles here.
use Rattle.std.proofs.Common.{◌≡◌, ℕ, suc, ◌<◌, ◌≤◌, ◌≢◌, ◌⊎◌, List, map, length, get_or, take, sym, ap, ◌∙◌, subst, inl, inr, arith, length-take-le, get_or-take}
use lib.ListN.{length-map}
use Rattle.std.proofs.lemmas.List.{get_or-map, get_or_default}
use Rattle.rules.specs.Lists.{Different}
use Rattle.rules.specs.Script.{Block, Part, no_part, Script, Scope, part_of, Keys, at, hand_over}
use Rattle.rules.specs.Keys.{BindingsInRange, LaidOut, Binds, BlockKeys}
use Rattle.rules.proofs.Reading.{PartSo}
use Rattle.rules.proofs.Scripts.{scope_at, ScriptSo, lower}
use Rattle.machine.specs.Player.{Frame, main}
use Rattle.machine.proofs.Open.{placed_part}
use Rattle.machine.proofs.Typed.{handles_of, Holds, Elsewhere, Typed, passes}
use Rattle.machine.proofs.Handing.{hand_over_length, hand_over_other, hand_over_same, where_is}

-- the part's handles, its ports being those of the handles here to which they are bound
pub record Bound (x y : Scope) (ports ports' bs : List ℕ) (ks : Keys) : Type 0 where
  pub count : length bs ≡ handles_of y
  pub here : (j : ℕ) → j < length bs → get_or bs j 0 < handles_of x
  pub joined : (j : ℕ) → j < length bs → get_or ports' j 0 ≡ get_or ports (get_or bs j 0) 0
  pub different : Different bs

-- after the part, the keys here are handed over
pub run_ends : (x y : Scope) (ports ports' bs : List ℕ) (ks outs : Keys) (st st' : List ℕ) → Bound x y ports ports' bs ks →
    Holds x ports ks st → Holds y ports' outs st' → Elsewhere y ports' st st' → Holds x ports (hand_over ks bs outs) st'
run_ends x y ports ports' bs ks outs st st' bd hs hq el = record {
  eight = λ h lt. subst (λ v. h < v) (sym (hand_over_length bs outs ks)) (hs.eight h lt);
  present = λ h lt. subst (λ v. get_or ports h 0 < v) el.count (hs.present h lt);
  stations = λ h lt. by_case h lt (where_is bs h);
  apart = hs.apart;
}
  where
    by_case : (h : ℕ) → h < handles_of x → ((j : ℕ) × (j < length bs) × (h ≡ get_or bs j 0)) ⊎ ((j : ℕ) → j < length bs → h ≢ get_or bs j 0) →
        get_or st' (get_or ports h 0) 0 ≡ at (hand_over ks bs outs) h
    by_case h lt (inl w) =
        let j : ℕ = w.0 in
        let jl : j < handles_of y = subst (λ v. j < v) bd.count w.1 in
        ap (λ v. get_or st' (get_or ports v 0) 0) w.2
        ∙ ap (λ v. get_or st' v 0) (sym (bd.joined j w.1))
        ∙ hq.stations j jl
        ∙ sym (hand_over_same bs outs ks j bd.different (λ i il. hs.eight (get_or bs i 0) (bd.here i il)) w.1 (hq.eight j jl))
        ∙ ap (λ v. at (hand_over ks bs outs) v) (sym w.2)
    by_case h lt (inr far) =
        sym (el.same (get_or ports h 0) (λ j jl e. absurd (
        let jl' : j < length bs = subst (λ v. j < v) (sym bd.count) jl in
        far j jl' (hs.apart h (get_or bs j 0) lt (bd.here j jl') (e ∙ bd.joined j jl')))))
        ∙ hs.stations h lt
        ∙ sym (hand_over_other bs outs ks h far)

-- the ports of the part's handles
abbrev pub handed : List ℕ → List ℕ → List ℕ
handed ports bs = map (λ b. get_or ports b 255) bs

module _ (s : Script) (f : Frame) (st : List ℕ) (n : ℕ) (Below : List ℕ → Type 0) (w : Typed s f st n Below) (p : ℕ) (bs : List ℕ)
    (script : ScriptSo s) (eight : 8 ≤ length bs) (ok : BindingsInRange (scope_at s w.place.part) (part_of (scope_at s w.place.part) p) bs)
    (lt : p < length (scope_at s w.place.part).below) (b : Binds (scope_at s w.place.part) (get_or s.parts p no_part) bs w.keys) where
  before : p < w.place.part
  before = (lower s w.place.part p lt).0

  inside : p < length s.parts
  inside = omega (arith, before, w.place.number)

  so : PartSo (get_or s.parts p no_part)
  so = script.parts p inside

  abbrev x : Scope
  x = scope_at s w.place.part

  abbrev y : Scope
  y = scope_at s p

  here_at : (j : ℕ) → j < handles_of y → get_or bs j 0 < handles_of x
  here_at j jl =
      let same = (lower s w.place.part p lt).1 in
      ok.own j (omega (arith, jl, so.few)) (subst (λ (q : Part). j < q.handles) (sym same) jl)

  joined_at : (j : ℕ) → j < handles_of y → get_or (handed f.ports bs) j 0 ≡ get_or f.ports (get_or bs j 0) 0
  joined_at j lt =
      get_or-map (λ b. get_or f.ports b 255) bs j 0 0 (omega (arith, lt, so.few, eight))
      ∙ get_or_default f.ports (get_or bs j 0) 255 0 (w.wide (get_or bs j 0) (here_at j lt))

  own_count : length (take (handles_of y) bs) ≡ handles_of y
  own_count = length-take-le (handles_of y) bs (omega (arith, so.few, eight))

  apart_at : (h j : ℕ) → h < handles_of y → j < handles_of y → get_or bs h 0 ≡ get_or bs j 0 → h ≡ j
  apart_at h j hl jl e = b.different h j (subst (λ v. h < v) (sym own_count) hl) (subst (λ v. j < v) (sym own_count) jl)
      (get_or-take (handles_of y) bs h 0 hl ∙ e ∙ sym (get_or-take (handles_of y) bs j 0 jl))

  pub part_holds : Holds y (handed f.ports bs) y.running.ins st
  part_holds = record {
    eight = λ h lt. omega (arith, lt, so.few, so.ins);
    present = λ h lt. subst (λ v. v < length st) (sym (joined_at h lt)) (w.holds.present (get_or bs h 0) (here_at h lt));
    stations = λ h lt. ap (λ v. get_or st v 0) (joined_at h lt) ∙ w.holds.stations (get_or bs h 0) (here_at h lt) ∙ b.stations h lt;
    apart = λ h j hl jl e. apart_at h j hl jl (w.holds.apart (get_or bs h 0) (get_or bs j 0) (here_at h hl) (here_at j jl) (sym (joined_at h hl) ∙ e ∙ joined_at j jl));
  }

  pub part_kinds : (h : ℕ) → h < handles_of y → get_or y.running.kinds h 0 ≡ get_or (main s).kinds (get_or (handed f.ports bs) h 0) 0
  part_kinds h lt = sym (b.kinds h lt) ∙ w.kinds (get_or bs h 0) (here_at h lt) ∙ ap (λ v. get_or (main s).kinds v 0) (sym (joined_at h lt))

  pub part_wide : (h : ℕ) → h < handles_of y → h < length (handed f.ports bs)
  part_wide h lt = omega (arith, length-map bs (λ b. get_or f.ports b 255), lt, so.few, eight)

  own_at : (j : ℕ) → j < length (take (handles_of y) bs) → j < handles_of y
  own_at j lt = subst (λ v. j < v) own_count lt

  bound_so : Bound x y f.ports (handed f.ports bs) (take (handles_of y) bs) w.keys
  bound_so = record {
    count = own_count;
    here = λ j lt. subst (λ v. v < handles_of x) (sym (get_or-take (handles_of y) bs j 0 (own_at j lt))) (here_at j (own_at j lt));
    joined = λ j lt. joined_at j (own_at j lt) ∙ ap (λ v. get_or f.ports v 0) (sym (get_or-take (handles_of y) bs j 0 (own_at j lt)));
    different = b.different;
  }

  part_elsewhere : (st' : List ℕ) → Elsewhere y (handed f.ports bs) st st' → Elsewhere x f.ports st st'
  part_elsewhere st' el = record {
    count = el.count;
    same = λ i far. el.same i (λ h lt e. far (get_or bs h 0) (here_at h lt) (e ∙ joined_at h lt));
  }

  -- the part's body, behind which the command is passed
  pub runs_part : (rest : Block) → BlockKeys x rest (hand_over w.keys (take (handles_of y) bs) y.running.outs) w.ends → LaidOut x w.place.depth rest →
      Typed s (record { block = y.running.body; ports = handed f.ports bs }) st (suc n) (λ st'. Typed s (record { block = rest; ports = f.ports }) st' n Below)
  runs_part rest dr lr = record {
    place = placed_part s script f.block n w.place p before;
    keys = y.running.ins;
    ends = y.running.outs;
    wide = part_wide;
    kinds = part_kinds;
    derived = script.derived p inside;
    holds = part_holds;
    below = λ st' hs el. passes s f st n Below rest w (hand_over w.keys (take (handles_of y) bs) y.running.outs) dr lr st'
        (run_ends x y f.ports (handed f.ports bs) (take (handles_of y) bs) w.keys y.running.outs st st' bound_so w.holds hs el)
        (part_elsewhere st' el);
  }
