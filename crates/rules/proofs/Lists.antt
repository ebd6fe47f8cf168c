-- Tests of lists: what they say, and when they pass.
use Rattle.std.proofs.Common.{◌≡◌, ℕ, zero, suc, ◌+◌, ◌<◌, Bool, true, false, not, eqb, List, [], ◌∷◌, length, get_or, drop, sym, refl, ap, ◌∙◌, inl, inr, true≢false, suc-le-suc, zero-le, le_of_suc-le-suc, arith}
use Rattle.protocol.specs.Lists.{all}
use Rattle.protocol.proofs.Tests.{both, and_true, either, or_left, or_right, is_false, not_true, same_number, equal_numbers}
use Rattle.protocol.proofs.Lists.{each_at, all_each}
pub use Rattle.protocol.proofs.Rows.{each_from, from_each, below, all_below}
use Rattle.rules.specs.Lists.{same, has, distinct, Different, empty, from}

-- All of a list

pub all_at : {X : Type 0} (f : X → Bool) (xs : List X) (d : X) → f d ≡ true → all f xs ≡ true → (i : ℕ) → f (get_or xs i d) ≡ true
all_at f xs d fd e = each_at (λ x. f x ≡ true) xs d fd (all_each f (λ x. f x ≡ true) (λ x q. q) xs e)

pub all_of : {X : Type 0} (f : X → Bool) (xs : List X) (d : X) → ((i : ℕ) → f (get_or xs i d) ≡ true) → all f xs ≡ true
all_of f [] d h = refl
all_of f (x ∷ xs) d h = and_true (h 0) (all_of f xs d (λ i. h (suc i)))

-- Numbers from one on

-- one of the numbers below k fails the test
pub fails_below : (f : ℕ → Bool) (k i : ℕ) → i < k → f i ≡ false → all f (from 0 k) ≡ false
fails_below f k i lt e = is_false (all f (from 0 k)) (λ h. true≢false (sym (below f k i h lt) ∙ e))

pub length_from : (n k : ℕ) → length (from n k) ≡ k
length_from n zero = refl
length_from n (suc k) = ap suc (length_from (suc n) k)

pub getD_from : (n k i d : ℕ) → i < k → get_or (from n k) i d ≡ n + i
getD_from n zero i d lt = absurd (omega arith)
getD_from n (suc k) zero d lt = omega arith
getD_from n (suc k) (suc i) d lt = getD_from (suc n) k i d (omega arith) ∙ omega arith

-- Same lists

pub same_lists : (xs ys : List ℕ) → same xs ys ≡ true → xs ≡ ys
same_lists [] [] e = refl
same_lists [] (y ∷ ys) e = absurd (true≢false (sym e))
same_lists (x ∷ xs) [] e = absurd (true≢false (sym e))
same_lists (x ∷ xs) (y ∷ ys) e = let p = both (eqb x y) (same xs ys) e in λ i. same_number x y p.0 i ∷ same_lists xs ys p.1 i

pub same_self : (xs : List ℕ) → same xs xs ≡ true
same_self [] = refl
same_self (x ∷ xs) = and_true (equal_numbers refl) (same_self xs)

pub is_empty : {X : Type 0} (xs : List X) → empty xs ≡ true → xs ≡ []
is_empty [] e = refl
is_empty (x ∷ xs) e = absurd (true≢false (sym e))

pub tail : {X : Type 0} (xs : List X) (i : ℕ) (d : X) → get_or (drop 1 xs) i d ≡ get_or xs (suc i) d
tail [] i d = refl
tail (x ∷ xs) i d = refl

-- Different numbers

pub has_at : (n : ℕ) (xs : List ℕ) (i : ℕ) → i < length xs → n ≡ get_or xs i 0 → has n xs ≡ true
has_at n [] i lt e = absurd (omega arith)
has_at n (x ∷ xs) zero lt e = or_left (has n xs) (equal_numbers e)
has_at n (x ∷ xs) (suc i) lt e = or_right (eqb n x) (has_at n xs i (le_of_suc-le-suc lt) e)

pub has_where : (n : ℕ) (xs : List ℕ) → has n xs ≡ true → (i : ℕ) × (i < length xs) × (n ≡ get_or xs i 0)
has_where n [] e = absurd (true≢false (sym e))
has_where n (x ∷ xs) e = elim (either (eqb n x) (has n xs) e) [
  | inl p ↦ (0, suc-le-suc zero-le, same_number n x p)
  | inr p ↦ let w = has_where n xs p in (suc w.0, suc-le-suc w.1, w.2)
]

pub different : (xs : List ℕ) → distinct xs ≡ true → Different xs
different [] e i j il jl q = absurd (omega arith)
different (x ∷ xs) e zero zero il jl q = refl
different (x ∷ xs) e zero (suc j) il jl q = absurd (not_true (both (not (has x xs)) (distinct xs) e).0 (has_at x xs j (le_of_suc-le-suc jl) q))
different (x ∷ xs) e (suc i) zero il jl q = absurd (not_true (both (not (has x xs)) (distinct xs) e).0 (has_at x xs i (le_of_suc-le-suc il) (sym q)))
different (x ∷ xs) e (suc i) (suc j) il jl q = ap suc (different xs (both (not (has x xs)) (distinct xs) e).1 i j (le_of_suc-le-suc il) (le_of_suc-le-suc jl) q)

pub are_distinct : (xs : List ℕ) → Different xs → distinct xs ≡ true
are_distinct [] d = refl
are_distinct (x ∷ xs) d = and_true (by_case (has x xs) refl) (are_distinct xs (λ i j il jl q. less (d (suc i) (suc j) (suc-le-suc il) (suc-le-suc jl) q)))
  where
    less : {i j : ℕ} → suc i ≡ suc j → i ≡ j
    less q = omega (arith, q)

    apart : {i : ℕ} → 0 ≡ suc i → ⊥
    apart q = omega (arith, q)

    by_case : (b : Bool) → has x xs ≡ b → not b ≡ true
    by_case false e = refl
    by_case true e = let w = has_where x xs e in absurd (apart (d 0 (suc w.0) (suc-le-suc zero-le) (suc-le-suc w.1) w.2))
