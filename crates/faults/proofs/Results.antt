-- Results that carry the first fault: taken apart, and put together.
use Rattle.std.proofs.Common.{◌≡◌, ℕ, suc, ◌+◌, ◌<◌, ◌≤◌, Bool, true, false, List, length, get_or, drop, Ok, Err, Result, refl, ap, ◌∙◌, arith, drop-cons}
use Rattle.std.proofs.lemmas.List.{drop_all}
use Rattle.faults.specs.Results.{◌>>=◌, need, each}

pub err_ok : {X E : Type 0} {e : E} {x : X} → ◌≡◌ {A = Result X E} (Err e) (Ok x) → ⊥
err_ok p = cc

pub ok_same : {X E : Type 0} {x y : X} → ◌≡◌ {A = Result X E} (Ok x) (Ok y) → x ≡ y
ok_same {x = x} p = ap (λ r. elim r [ Ok v ↦ v | Err e ↦ x ]) p

pub bound : {X Y E : Type 0} (r : Result X E) (f : X → Result Y E) (y : Y) → (r >>= f) ≡ Ok y → (x : X) × (r ≡ Ok x) × (f x ≡ Ok y)
bound (Ok x) f y e = (x, refl, e)
bound (Err z) f y e = absurd (err_ok e)

pub needed : {E : Type 0} (b : Bool) (e : E) (u : Unit {0}) → need b e ≡ Ok u → b ≡ true
needed true e u p = refl
needed false e u p = absurd (err_ok p)

pub follows : {X Y E : Type 0} {r : Result X E} {x : X} (f : X → Result Y E) → r ≡ Ok x → (r >>= f) ≡ f x
follows f p = ap (λ v. v >>= f) p

pub met : {X E : Type 0} (b : Bool) (e : E) (f : Unit {0} → Result X E) → b ≡ true → (need b e >>= f) ≡ f tt
met b e f p = ap (λ v. need v e >>= f) p

-- The first fault along a list, from a place on

module _ {X E : Type 0} (f : X → Result (Unit {0}) E) (xs : List X) (i : ℕ) where
  pub each_on : (d : X) → i < length xs → f (get_or xs i d) ≡ Ok tt → each f (drop i xs) ≡ each f (drop (i + 1) xs)
  each_on d lt e =
      ap (each f) (drop-cons xs i d lt)
      ∙ ap (λ r. r >>= (λ _. each f (drop (suc i) xs))) e
      ∙ (let z : suc i ≡ i + 1 = omega arith in ap (λ j. each f (drop j xs)) z)

  pub each_stops : (d : X) (e : E) → i < length xs → f (get_or xs i d) ≡ Err e → each f (drop i xs) ≡ Err e
  each_stops d e lt q = ap (each f) (drop-cons xs i d lt) ∙ ap (λ r. r >>= (λ _. each f (drop (suc i) xs))) q

  pub each_ends : length xs ≤ i → each f (drop i xs) ≡ Ok tt
  each_ends le = ap (each f) (drop_all i xs le)
