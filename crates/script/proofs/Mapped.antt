-- Lists that are made or tested item by item.
use Rattle.std.proofs.Common.{◌≡◌, ℕ, zero, suc, ◌+◌, ◌*◌, ◌<◌, Bool, true, ◌&&◌, List, [], ◌∷◌, map, length, get_or, take, drop, sym, refl, ap, ◌∙◌, arith, get_or-drop}
use Rattle.std.specs.List.{enumerate_from, list_all}
use Rattle.std.proofs.lemmas.List.FromFn.{length-enumerate_from, get_or-enumerate_from}
use Rattle.protocol.specs.Lists.{all}
use Rattle.protocol.proofs.Tests.{and_true}
use Rattle.rules.specs.Lists.{from}
use Rattle.rules.specs.Script.{thirds}

module _ {X Y : Type 0} (f : X → Y) (d : X) where
  pub mapped : (xs : List X) (ys : List Y) (e : Y) → length ys ≡ length xs → ((i : ℕ) → i < length xs → get_or ys i e ≡ f (get_or xs i d)) → ys ≡ map f xs
  mapped [] [] e len h = refl
  mapped [] (y ∷ ys) e len h = absurd (omega arith)
  mapped (x ∷ xs) [] e len h = absurd (omega arith)
  mapped (x ∷ xs) (y ∷ ys) e len h = λ i. h 0 (omega arith) i ∷ mapped xs ys e (omega arith) (λ j lt. h (suc j) (omega arith)) i

  pub map_at : (xs : List X) (i : ℕ) → get_or (map f xs) i (f d) ≡ f (get_or xs i d)
  map_at [] i = refl
  map_at (x ∷ xs) zero = refl
  map_at (x ∷ xs) (suc i) = map_at xs i

pub thirds_over : {X : Type 0} (f : X → ℕ) (d : X) (xs : List X) (bs : List ℕ) → ((i : ℕ) → i < length xs → f (get_or xs i d) ≡ get_or bs (3 * i) 0) → map f xs ≡ thirds (length xs) bs
thirds_over f d [] bs h = refl
thirds_over f d (x ∷ xs) bs h =
    λ i. h 0 (omega arith) i ∷ thirds_over f d xs (drop 3 bs) (λ j lt.
    let e : 3 * suc j ≡ 3 + 3 * j = omega arith in
    h (suc j) (omega arith) ∙ ap (λ (k : ℕ). get_or bs k 0) e ∙ sym (get_or-drop 3 bs (3 * j) 0)) i

-- a test of the numbers from one on, as a test of the items
module _ {X : Type 0} (f : ℕ → Bool) (g : X → Bool) (d : X) where
  pub all_over : (xs : List X) (k : ℕ) → ((i : ℕ) → i < length xs → f (k + i) ≡ g (get_or xs i d)) → all f (from k (length xs)) ≡ list_all g xs
  all_over [] k h = refl
  all_over (x ∷ xs) k h =
      let here : k ≡ k + 0 = omega arith in
      λ i. (ap f here ∙ h 0 (omega arith)) i && all_over xs (suc k) (λ j lt. let e : suc k + j ≡ k + suc j = omega arith in ap f e ∙ h (suc j) (omega arith)) i

  pub all_none : (n k : ℕ) → ((i : ℕ) → f (k + i) ≡ true) → all f (from k n) ≡ true
  all_none zero k h = refl
  all_none (suc n) k h =
      let here : k ≡ k + 0 = omega arith in
      and_true (ap f here ∙ h 0) (all_none n (suc k) (λ j. let e : suc k + j ≡ k + suc j = omega arith in ap f e ∙ h (suc j)))

  -- of the first of them, where none beyond the last fails
  pub all_front : (xs : List X) (n k : ℕ) → ((i : ℕ) → f (k + i) ≡ g (get_or xs i d)) → g d ≡ true → all f (from k n) ≡ list_all g (take n xs)
  all_front xs zero k h t = refl
  all_front [] (suc n) k h t = all_none (suc n) k (λ i. h i ∙ t)
  all_front (x ∷ xs) (suc n) k h t =
      let here : k ≡ k + 0 = omega arith in
      λ i. (ap f here ∙ h 0) i && all_front xs n (suc k) (λ j. let e : suc k + j ≡ k + suc j = omega arith in ap f e ∙ h (suc j)) t i

-- the same, where the test reads the number too
pub all_numbered : {X : Type 0} (f : ℕ → Bool) (g : ℕ × X → Bool) (d : X) (xs : List X) (n : ℕ) → length xs ≡ n → ((i : ℕ) → f i ≡ g (i, get_or xs i d)) → list_all g (enumerate_from 0 xs) ≡ all f (from 0 n)
all_numbered f g d xs n len h =
    sym (all_over f g (0, d) (enumerate_from 0 xs) 0 (λ i lt.
    let z : 0 + i ≡ i = omega arith in
    let few : i < length xs = omega (arith, length-enumerate_from 0 xs, lt) in
    h (0 + i) ∙ ap (λ (j : ℕ). g (0 + i, get_or xs j d)) z ∙ ap g (sym (get_or-enumerate_from 0 xs i (0, d) few))))
    ∙ ap (λ (m : ℕ). all f (from 0 m)) (length-enumerate_from 0 xs ∙ len)
