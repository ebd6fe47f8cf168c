-- Rows of numbers, and tests of all the numbers below one.
use Rattle.std.proofs.Common.{◌≡◌, ℕ, zero, suc, ◌+◌, ◌<◌, ◌≤◌, Bool, true, subst, arith}
use native.Mathlib.Decide.{ℕ_discrete}
use Rattle.protocol.specs.Lists.{all, Each, from}
use Rattle.protocol.proofs.Lists.{all_each, each_all}

pub each_from : (P : ℕ → Type 0) (n k : ℕ) → ((i : ℕ) → n ≤ i → i < n + k → P i) → Each P (from n k)
each_from P n zero f = tt
each_from P n (suc k) f = (f n (omega arith) (omega arith), each_from P (suc n) k (λ i le lt. f i (omega (arith, le)) (omega (arith, lt))))

pub from_each : (P : ℕ → Type 0) (n k i : ℕ) → Each P (from n k) → n ≤ i → i < n + k → P i
from_each P n zero i h le lt = absurd (omega arith)
from_each P n (suc k) i h le lt = by (ℕ_discrete n i) (from_each P (suc n) k i h.1)
  where
    by : Dec (n ≡ i) → (suc n ≤ i → i < suc n + k → P i) → P i
    by (yes e) r = subst P e h.0
    by (no ne) r = r (omega (arith, ne)) (omega arith)

-- a test of the numbers below k
pub below : (f : ℕ → Bool) (k i : ℕ) → all f (from 0 k) ≡ true → i < k → f i ≡ true
below f k i h lt = from_each (λ j. f j ≡ true) 0 k i (all_each f (λ j. f j ≡ true) (λ j q. q) (from 0 k) h) (omega arith) (omega arith)

pub all_below : (f : ℕ → Bool) (k : ℕ) → ((i : ℕ) → i < k → f i ≡ true) → all f (from 0 k) ≡ true
all_below f k h = each_all f (λ j. f j ≡ true) (λ j q. q) (from 0 k) (each_from (λ j. f j ≡ true) 0 k (λ i le lt. h i (omega (arith, lt))))
