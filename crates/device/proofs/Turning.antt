-- A ring of places, from one of them on.
use Rattle.std.proofs.Common.{◌≡◌, ℕ, ◌+◌, ◌-◌, ◌%◌, ◌<◌, ◌≤◌, List, length, get_or, take, drop, Some, None, sym, ap, ◌∙◌, inl, inr, mod-eq_of_lt, arith, length-append, length-drop, length-take, get_or-drop, get_or-take}
use native.Mathlib.Nat.{mod-eq-sub-mod}
use Rattle.std.specs.List.{slice_get}
use Rattle.std.proofs.lemmas.Bool.{cases_lt}
use Rattle.std.proofs.lemmas.List.{get_or_append_left, get_or-append_right}
use Rattle.std.proofs.lemmas.Option.{slice_get-get_or, slice_get_past}
use Rattle.device.specs.Rings.{IsRing, from_place}

pub oldest_within : {X : Type 0} {n k : ℕ} {xs : List X} → IsRing n k xs → k ≤ length xs
oldest_within r = grind (arith, r.few, r.within, r.first)

-- around the end of the room, or of the places that are filled: the same place
pub around : {X : Type 0} {n k : ℕ} {xs : List X} → IsRing n k xs → (i : ℕ) → i < length xs → (k + i) % n ≡ (k + i) % length xs
around {n = n} {k = k} {xs = xs} r i h = elim (cases_lt (length xs) n) [
  | inl low ↦ let z : k + i ≡ i = omega (arith, r.first low) in
      ap (λ j. j % n) z ∙ mod-eq_of_lt (omega arith) ∙ sym (mod-eq_of_lt h) ∙ ap (λ j. j % length xs) (sym z)
  | inr high ↦ ap (λ m. (k + i) % m) (omega (arith, r.few))
]

module _ {X : Type 0} (k : ℕ) (xs : List X) (within : k ≤ length xs) where
  length_from : length (from_place k xs) ≡ length xs
  length_from = omega (arith, length-append (drop k xs) (take k xs), length-drop k xs, length-take k xs)

  get_or_from : (i : ℕ) (d : X) → i < length xs → get_or (from_place k xs) i d ≡ get_or xs ((k + i) % length xs) d
  get_or_from i d h =
      let front = length-drop k xs in
      elim (cases_lt (k + i) (length xs)) [
        | inl low ↦ get_or_append_left (drop k xs) (take k xs) d i (omega arith) ∙ get_or-drop k xs i d ∙ ap (λ j. get_or xs j d) (sym (mod-eq_of_lt low))
        | inr high ↦ get_or-append_right (drop k xs) (take k xs) (length xs - k) i d front (omega arith)
            ∙ get_or-take k xs (i - (length xs - k)) d (omega arith)
            ∙ ap (λ j. get_or xs j d) (let e = mod-eq-sub-mod high ∙ mod-eq_of_lt (omega arith) in omega arith)
      ]

  pub at_place : (i : ℕ) (d : X) → i < length xs → Some (get_or xs ((k + i) % length xs) d) ≡ slice_get (from_place k xs) i
  at_place i d h = sym (slice_get-get_or (from_place k xs) i d (omega (arith, length_from)) ∙ ap (λ (x : X). Some x) (get_or_from i d h))

  pub past_places : (i : ℕ) → length xs ≤ i → None ≡ slice_get (from_place k xs) i
  past_places i h = sym (slice_get_past (from_place k xs) i (omega (arith, length_from)))
