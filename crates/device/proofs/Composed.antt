-- Devices before one another are a row of the first eight.
use Rattle.std.proofs.Common.{◌≡◌, ℕ, ◌<◌, ◌≤◌, List, [], ◌∷◌, length, get_or, sym, refl, ap, ◌∙◌, subst, arith, lit≤, length-take, get_or-take, take-take}
use lib.Seq.{take-set-lt}
use Rattle.device.specs.Meaning.{Meaning, Hears}
use Rattle.device.specs.Ports.{Ports, RigHears}
use Rattle.device.specs.Built.{before_ports, row_ports}
use Rattle.device.proofs.Numbered.{edge_of, station_of, heard_of, port_hears, hears_port, none_hears, past_ports}
use Rattle.device.specs.Composed.{nested, IsPort, RowOf, RigsCompose}

nest : (m : Meaning) (ms : List Meaning) → nested m ms ≡ row_ports (m ∷ ms)
nest m [] = refl
nest m (n ∷ ms) = ap (λ (g : Ports). before_ports m g) (nest n ms) ∙ ap {B = Ports} (λ (g : Ports). m ∷ g) (take-take 7 8 (n ∷ ms) (lit≤ tt))

-- a list of which the first eight are ports
module _ (ms : List Meaning) where
  pub port_below : (p : ℕ) → IsPort ms p → p < length (row_ports ms)
  port_below p h = let long = length-take 8 ms in omega arith

  pub past_all : (p : ℕ) → (IsPort ms p → ⊥) → length (row_ports ms) ≤ p
  past_all p f = let h : p < length (row_ports ms) → ⊥ = λ h. (let long = length-take 8 ms in f (omega arith, omega arith)) in omega arith

  device_of : (d : Meaning) (p : ℕ) → IsPort ms p → get_or (row_ports ms) p d ≡ get_or ms p d
  device_of d p h = get_or-take 8 ms p d h.0

row : (m : Meaning) (ms : List Meaning) → RowOf m ms (row_ports (m ∷ ms))
row m ms = record {
  ports = refl;
  count = length-take 8 (m ∷ ms);
  edges = λ p s l a h. edge_of (row_ports (m ∷ ms)) m p s l a (port_below (m ∷ ms) p h) ∙ ap (λ (v : Meaning). v.table s l a) (device_of (m ∷ ms) m p h);
  stations = λ p h. station_of (row_ports (m ∷ ms)) m p (port_below (m ∷ ms) p h) ∙ ap (λ (v : Meaning). v.station) (device_of (m ∷ ms) m p h);
  heards = λ p h. heard_of (row_ports (m ∷ ms)) m p (port_below (m ∷ ms) p h) ∙ ap (λ (v : Meaning). v.heard) (device_of (m ∷ ms) m p h);
  asks = λ p l a g' h r.
      let w = port_hears m (port_below (m ∷ ms) p h) r in
      (w.0, subst (λ (v : Meaning). Hears v l a w.0) (device_of (m ∷ ms) m p h) w.1, w.2 ∙ sym (take-set-lt 8 (m ∷ ms) p w.0 h.0));
  asked = λ p l a g' h w.
      let q = subst (λ (v : Meaning). Hears v l a w.0) (sym (device_of (m ∷ ms) m p h)) w.1 in
      let e = take-set-lt 8 (m ∷ ms) p w.0 h.0 in
      subst (λ (v : Ports). RigHears (row_ports (m ∷ ms)) p l a v) (sym (w.2 ∙ e)) (hears_port (row_ports (m ∷ ms)) m p l a w.0 (port_below (m ∷ ms) p h) q);
  missing = λ p l a g' f r. none_hears (past_all (m ∷ ms) p f) r;
  silent = λ p l f. past_ports (row_ports (m ∷ ms)) p l (past_all (m ∷ ms) p f);
}

pub compose : RigsCompose
compose m ms = let w = row m ms in (subst (λ (g : Ports). RowOf m ms g) (sym (nest m ms)) w, w)
