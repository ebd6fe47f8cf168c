-- A letter to a port of devices in a row: the first eight are ports.
use Rattle.std.proofs.Common.{◌≡◌, ℕ, ◌<◌, ◌≤◌, Option, List, map, length, get_or, set, take, vec_items, vec_len, Vec, sym, refl, ap, ◌∙◌, subst, arith, get_or-take, length-take}
use Rattle.std.specs.List.{slice_get}
use Rattle.std.specs.Option.{MatchOption}
use Rattle.std.proofs.lemmas.Option.{slice_get_past, slice_get_read}
use lib.ListN.{length-map, get_or-map}
use lib.Seq.{map-set, take-set-lt}
use Rattle.device.specs.Asked.{Refuses, RowAsks}
use Rattle.device.specs.Meaning.{Meaning, Hears}
use Rattle.device.specs.Ports.{Ports, RigHears}
use Rattle.device.specs.Built.{row_ports}
use Rattle.device.specs.Composed.{IsPort}
use Rattle.device.proofs.Numbered.{hears_port, past_ports}
use Rattle.device.proofs.Composed.{port_below, past_all}

module _ {X Z : Type 0} (f : X → Meaning) (v : Vec X Z) (p : ℕ) where
  abbrev means : List Meaning
  means = map f (vec_items v)

  long : vec_len v ≡ length means
  long = v.ok.0 ∙ sym (length-map (vec_items v) f)

  -- the device that was read at a port
  pub row_asks : (x y : X) (l a : ℕ) → p < 8 → p < vec_len v → x ≡ get_or (vec_items v) p x → Hears (f x) l a (f y) →
      RigHears (row_ports means) p l a (row_ports (map f (set (vec_items v) p y)))
  row_asks x y l a few within read h =
      let inside : IsPort means p = (few, subst (λ (n : ℕ). p < n) long within) in
      let device : get_or (row_ports means) p (f x) ≡ f x = get_or-take 8 means p (f x) few ∙ (get_or-map f (vec_items v) p x ∙ ap f (sym read)) in
      let put : set (row_ports means) p (f y) ≡ row_ports (map f (set (vec_items v) p y)) =
      sym (take-set-lt 8 means p (f y) few) ∙ ap (λ (ms : List Meaning). row_ports ms) (sym (map-set f (vec_items v) p y)) in
      let q = subst (λ (m : Meaning). Hears m l a (f y)) (sym device) h in
      subst (λ (g : Ports). RigHears (row_ports means) p l a g) put (hears_port (row_ports means) (f x) p l a (f y) (port_below means p inside) q)

  pub row_missing : (l : ℕ) → (p < 8 → p < vec_len v → ⊥) → RigHears (row_ports means) p l 255 (row_ports means)
  row_missing l outside =
      past_ports (row_ports means) p l (past_all means p (λ h. outside h.0 (subst (λ (n : ℕ). p < n) (sym long) h.1)))

  -- Every device, as a value

  asks_at : {o : Option X} → slice_get (take 8 (vec_items v)) p ≡ o → (l a : ℕ) (xs : List X) →
      MatchOption o (Refuses (vec_items v) a xs) (λ x. (y : X) × Hears (f x) l a (f y) × (xs ≡ set (vec_items v) p y)) → RowAsks f (vec_items v) p l a xs
  asks_at e l a xs w = subst (λ (o : Option X). MatchOption o (Refuses (vec_items v) a xs) (λ x. (y : X) × Hears (f x) l a (f y) × (xs ≡ set (vec_items v) p y))) (sym e) w

  pub row_asks_device : (x y : X) (l a : ℕ) → p < 8 → p < vec_len v → x ≡ get_or (vec_items v) p x → Hears (f x) l a (f y) → RowAsks f (vec_items v) p l a (set (vec_items v) p y)
  row_asks_device x y l a few within read h =
      let first : List X = take 8 (vec_items v) in
      let there : p < length first = omega (arith, length-take 8 (vec_items v), v.ok.0) in
      asks_at (slice_get_read first (length first) p x refl there (read ∙ sym (get_or-take 8 (vec_items v) p x few))) l a _ (y, h, refl)

  pub row_refuses : (l : ℕ) → (p < 8 → p < vec_len v → ⊥) → RowAsks f (vec_items v) p l 255 (vec_items v)
  row_refuses l outside =
      let long = length-take 8 (vec_items v) in
      let inside : p < length (take 8 (vec_items v)) → ⊥ = λ h. outside (omega (arith, long)) (omega (arith, long, v.ok.0)) in
      let past : length (take 8 (vec_items v)) ≤ p = omega arith in
      asks_at (slice_get_past (take 8 (vec_items v)) p past) l 255 _ (refl, refl)
