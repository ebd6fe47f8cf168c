-- Open blocks that the key rules type, and that commands keep so.
use Rattle.std.proofs.Common.{◌≡◌, ℕ, suc, ◌<◌, ◌≢◌, List, [], ◌∷◌, length, get_or, set, sym, refl, ap, ◌∙◌, subst, length-set, get_or-set_other, get_or-set_same}
use native.Mathlib.Decide.{ℕ_discrete}
use Rattle.rules.specs.Keys.{BlockKeys, LaidOut}
use Rattle.rules.specs.Script.{Block, Keys, Scope, Script, at, first, nothing}
use Rattle.rules.proofs.Derived.{end_derived}
use Rattle.rules.proofs.Reading.{no_first}
use Rattle.rules.proofs.Scripts.{scope_at}
use Rattle.machine.specs.Player.{Frame, main}
use Rattle.machine.specs.Steps.{unwound}
use Rattle.machine.proofs.Open.{Placed, placed_inner, placed_rest}

-- the part of a number
abbrev pub handles_of : Scope → ℕ
handles_of x = x.running.handles

-- the handles stand for different ports, which are at the stations of the keys
pub record Holds (x : Scope) (ports : List ℕ) (ks : Keys) (st : List ℕ) : Type 0 where
  pub eight : (h : ℕ) → h < handles_of x → h < length ks
  pub present : (h : ℕ) → h < handles_of x → get_or ports h 0 < length st
  pub stations : (h : ℕ) → h < handles_of x → get_or st (get_or ports h 0) 0 ≡ at ks h
  pub apart : (h j : ℕ) → h < handles_of x → j < handles_of x → get_or ports h 0 ≡ get_or ports j 0 → h ≡ j

-- there are as many ports, and those that no handle stands for are as they were
pub record Elsewhere (x : Scope) (ports st st' : List ℕ) : Type 0 where
  pub count : length st ≡ length st'
  pub same : (i : ℕ) → ((h : ℕ) → h < handles_of x → i ≢ get_or ports h 0) → get_or st i 0 ≡ get_or st' i 0

pub unmoved : (x : Scope) (ports st : List ℕ) → Elsewhere x ports st st
unmoved x ports st = record { count = refl; same = λ i far. refl }

pub elsewhere_then : (x : Scope) (ports st st₁ st₂ : List ℕ) → Elsewhere x ports st st₁ → Elsewhere x ports st₁ st₂ → Elsewhere x ports st st₂
elsewhere_then x ports st st₁ st₂ a b = record { count = a.count ∙ b.count; same = λ i far. a.same i far ∙ b.same i far }

-- what is left of an open block over n others: it leads from the keys, at which the ports are, to keys with which the blocks below go on
pub record Typed (s : Script) (f : Frame) (st : List ℕ) (n : ℕ) (Below : List ℕ → Type 0) : Type 0 where
  pub place : Placed s f.block n
  pub keys : Keys
  pub ends : Keys
  pub wide : (h : ℕ) → h < handles_of (scope_at s place.part) → h < length f.ports
  pub kinds : (h : ℕ) → h < handles_of (scope_at s place.part) → get_or (scope_at s place.part).running.kinds h 0 ≡ get_or (main s).kinds (get_or f.ports h 0) 0
  pub derived : BlockKeys (scope_at s place.part) f.block keys ends
  pub holds : Holds (scope_at s place.part) f.ports keys st
  pub below : (st' : List ℕ) → Holds (scope_at s place.part) f.ports ends st' → Elsewhere (scope_at s place.part) f.ports st st' → Below st'

-- the open blocks, down to the end of main, where all ports are away
abbrev pub Stack : Script → List Frame → List ℕ → Type 0
Stack s [] st = (i : ℕ) → get_or st i 0 ≡ 0
Stack s (f ∷ fs) st = Typed s f st (length fs) (λ st'. Stack s fs st')

-- a handle moves
pub holds_moved : (x : Scope) (ports : List ℕ) (ks : Keys) (st : List ℕ) (h t : ℕ) → h < handles_of x → Holds x ports ks st →
    Holds x ports (set ks h t) (set st (get_or ports h 0) t)
holds_moved x ports ks st h t lt hs = record {
  eight = λ j jl. subst (λ v. j < v) (sym (length-set ks h t)) (hs.eight j jl);
  present = λ j jl. subst (λ v. get_or ports j 0 < v) (sym (length-set st (get_or ports h 0) t)) (hs.present j jl);
  stations = λ j jl. by_case j jl (ℕ_discrete j h);
  apart = hs.apart;
}
  where
    by_case : (j : ℕ) → j < handles_of x → Dec (j ≡ h) → get_or (set st (get_or ports h 0) t) (get_or ports j 0) 0 ≡ at (set ks h t) j
    by_case j jl (yes e) =
        ap (λ v. get_or (set st (get_or ports h 0) t) (get_or ports v 0) 0) e
        ∙ get_or-set_same st (get_or ports h 0) t 0 (hs.present h lt)
        ∙ sym (get_or-set_same ks h t 0 (hs.eight h lt))
        ∙ ap (λ v. at (set ks h t) v) (sym e)
    by_case j jl (no ne) =
        get_or-set_other st (get_or ports h 0) (get_or ports j 0) t 0 (λ e. ne (hs.apart j h jl lt e))
        ∙ hs.stations j jl
        ∙ sym (get_or-set_other ks h j t 0 ne)

pub elsewhere_moved : (x : Scope) (ports : List ℕ) (st : List ℕ) (h t : ℕ) → h < handles_of x → Elsewhere x ports st (set st (get_or ports h 0) t)
elsewhere_moved x ports st h t lt = record {
  count = sym (length-set st (get_or ports h 0) t);
  same = λ i far. sym (get_or-set_other st (get_or ports h 0) i t 0 (far h lt));
}

-- Blocks at their end

-- a block at its end is left
pops : (s : Script) (f : Frame) (st : List ℕ) (n : ℕ) (Below : List ℕ → Type 0) → first f.block ≡ nothing → Typed s f st n Below → Below st
pops s f st n Below e w =
    let x : Scope = scope_at s w.place.part in
    w.below st (subst (λ v. Holds x f.ports v st) (end_derived x w.derived e) w.holds) (unmoved x f.ports st)

pub unwinds : (s : Script) (fs : List Frame) (st : List ℕ) → Stack s fs st → Stack s (unwound fs) st
unwinds s [] st w = w
unwinds s (f ∷ fs) st w = by f.block.bytes refl (unwinds s fs st)
  where
    by : (bs : List ℕ) → f.block.bytes ≡ bs → (Stack s fs st → Stack s (unwound fs) st) → Stack s (elim bs [ [] ↦ unwound fs | b ∷ bs ↦ f ∷ fs ]) st
    by [] e ih = ih (pops s f st (length fs) (λ st'. Stack s fs st') (no_first f.block e) w)
    by (b ∷ bs) e ih = w

-- Commands that pass

-- the rest of a block after its first command, at the keys to which it led
pub passes : (s : Script) (f : Frame) (st : List ℕ) (n : ℕ) (Below : List ℕ → Type 0) (rest : Block) (w : Typed s f st n Below) (ks : Keys) →
    BlockKeys (scope_at s w.place.part) rest ks w.ends → LaidOut (scope_at s w.place.part) w.place.depth rest →
    (st₁ : List ℕ) → Holds (scope_at s w.place.part) f.ports ks st₁ → Elsewhere (scope_at s w.place.part) f.ports st st₁ →
    Typed s (record { block = rest; ports = f.ports }) st₁ n Below
passes s f st n Below rest w ks d l st₁ hs el = record {
  place = placed_rest s f.block n w.place rest l;
  keys = ks;
  ends = w.ends;
  wide = w.wide;
  kinds = w.kinds;
  derived = d;
  holds = hs;
  below = λ st' hs' el'. w.below st' hs' (elsewhere_then (scope_at s w.place.part) f.ports st st₁ st' el el');
}

-- a block of the command, behind which it goes on
pub enters : (s : Script) (f : Frame) (st : List ℕ) (n : ℕ) (Below Below' : List ℕ → Type 0) (w : Typed s f st n Below) (b : Block) (ks ks' : Keys) → w.place.depth < 8 →
    BlockKeys (scope_at s w.place.part) b ks ks' → LaidOut (scope_at s w.place.part) (suc w.place.depth) b →
    (st₁ : List ℕ) → Holds (scope_at s w.place.part) f.ports ks st₁ →
    ((st' : List ℕ) → Holds (scope_at s w.place.part) f.ports ks' st' → Elsewhere (scope_at s w.place.part) f.ports st₁ st' → Below' st') →
    Typed s (record { block = b; ports = f.ports }) st₁ (suc n) Below'
enters s f st n Below Below' w b ks ks' room d l st₁ hs next = record {
  place = placed_inner s f.block n w.place b room l;
  keys = ks;
  ends = ks';
  wide = w.wide;
  kinds = w.kinds;
  derived = d;
  holds = hs;
  below = next;
}
