-- A letter to a port of a rig that is built of devices.
use Rattle.std.proofs.Common.{◌≡◌, ℕ, zero, suc, ◌<◌, ◌≤◌, List, ◌∷◌, length, take, sym, refl, subst, arith, le-ltb}
use Rattle.std.specs.Bool.{MatchBool}
use Rattle.protocol.proofs.Tests.{is_less}
use Rattle.device.specs.declared.rigs.before.Before.{Before}
use Rattle.device.specs.Asked.{Refuses, SingleAsks, BeforeAsks}
use Rattle.device.specs.Meaning.{Meaning, Hears}
use Rattle.device.specs.Ports.{Ports, RigHears, here, there, missing}
use Rattle.device.specs.Built.{row_ports, before_ports, row_few}
use Rattle.device.proofs.Numbered.{past_ports}

-- a port that is among the first is theirs
pub among_first : {g g' : Ports} {p l a : ℕ} (n : ℕ) → p < n → RigHears g p l a g' → RigHears (take n g) p l a (take n g')
among_first zero h r = absurd (omega arith)
among_first (suc n) h (here q) = here q
among_first (suc n) h (there r) = there (among_first n (omega arith) r)
among_first (suc n) h missing = missing

at_port : {g g' : Ports} {l a : ℕ} (p q : ℕ) → q ≡ p → RigHears g p l a g' → RigHears g q l a g'
at_port {g} {g'} {l} {a} p q e r = subst (λ (v : ℕ). RigHears g v l a g') (sym e) r

pub asks_first : {m m' : Meaning} {g : Ports} {l a : ℕ} (p : ℕ) → p ≡ 0 → Hears m l a m' → RigHears (m ∷ g) p l a (m' ∷ g)
asks_first p e h = at_port 0 p e (here h)

pub asks_rest : {m : Meaning} {g g' : Ports} {l a : ℕ} (p q : ℕ) → (p ≡ suc q) × (p < 8) → RigHears g q l a g' → RigHears (before_ports m g) p l a (before_ports m g')
asks_rest p q w r = at_port (suc q) p w.0 (among_first 8 (omega (arith, w.0, w.1)) (there r))

pub asks_none : (ms : List Meaning) (p l : ℕ) → 8 ≤ p → RigHears (row_ports ms) p l 255 (row_ports ms)
asks_none ms p l h = past_ports (row_ports ms) p l (let few : length (row_ports ms) ≤ 8 = row_few ms in omega arith)

-- Every device that the rig holds, as a value

pub single_asks : {D : Type 0} (meaning : D → Meaning) (d d' : D) (p l a : ℕ) → p ≡ 0 → Hears (meaning d) l a (meaning d') → SingleAsks meaning d p l a d'
single_asks meaning d d' p l a e h = subst (λ (v : ℕ). SingleAsks meaning d v l a d') (sym e) h

pub single_refuses : {D : Type 0} (meaning : D → Meaning) (d : D) (p l : ℕ) → 0 < p → SingleAsks meaning d p l 255 d
single_refuses meaning d zero l h = absurd (omega arith)
single_refuses meaning d (suc p) l h = (refl, refl)

module _ {D R : Type 0} (meaning : D → Meaning) (asks : R → ℕ → ℕ → ℕ → R → Type 0) (r : Before D R) where
  pub before_asks_first : (d' : D) (p l a : ℕ) → p ≡ 0 → Hears (meaning r.first) l a (meaning d') → BeforeAsks meaning asks r p l a (record { first = d'; rest = r.rest })
  before_asks_first d' p l a e h = subst (λ (v : ℕ). BeforeAsks meaning asks r v l a (record { first = d'; rest = r.rest })) (sym e) (h, refl)

  pub before_asks_rest : (g' : R) (p q l a : ℕ) → (p ≡ suc q) × (p < 8) → asks r.rest q l a g' → BeforeAsks meaning asks r p l a (record { first = r.first; rest = g' })
  before_asks_rest g' p q l a w h =
      let r' : Before D R = record { first = r.first; rest = g' } in
      subst (λ (v : ℕ). BeforeAsks meaning asks r v l a r') (sym w.0)
      (subst (λ b. MatchBool b ((r.first ≡ r.first) × asks r.rest q l a g') (Refuses r a r')) (sym (is_less (omega (arith, w.0, w.1)))) (refl, h))

  pub before_refuses : (p l : ℕ) → 8 ≤ p → BeforeAsks meaning asks r p l 255 r
  before_refuses zero l h = absurd (omega arith)
  before_refuses (suc p) l h = subst (λ b. MatchBool b ((r.first ≡ r.first) × asks r.rest p l 255 r.rest) (Refuses r 255 r)) (sym (le-ltb p 7 (omega arith))) (refl, refl)
