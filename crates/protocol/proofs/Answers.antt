-- Letters that are allowed, and the answers to them.
use Rattle.std.proofs.Common.{◌≡◌, ℕ, zero, suc, ◌<◌, Bool, true, false, ◌||◌, is_some, Option, refl, ap, inl, inr, arith}
use Rattle.std.specs.List.{list_any, range_with_len}
use Rattle.protocol.specs.Lists.{all}
use Rattle.protocol.specs.Tables.{Table, Ranged, Allowed, allowed, successors}
use Rattle.protocol.proofs.Tests.{some_of, both, and_true, either, or_left, or_right}

pub allows : (e : Table) (s l : ℕ) → allowed e s l ≡ true → Allowed e s l
allows e s l h = elim (either (is_some (e s l 0)) _ h) [
  | inl p ↦ let w = some_of (e s l 0) p in (0, w.0, w.1)
  | inr h1 ↦ elim (either (is_some (e s l 1)) _ h1) [
    | inl p ↦ let w = some_of (e s l 1) p in (1, w.0, w.1)
    | inr h2 ↦ elim (either (is_some (e s l 2)) _ h2) [
      | inl p ↦ let w = some_of (e s l 2) p in (2, w.0, w.1)
      | inr h3 ↦ let w = some_of (e s l 3) h3 in (3, w.0, w.1)
    ]
  ]
]

pub is_allowed : (e : Table) (s l a : ℕ) → a < 4 → is_some (e s l a) ≡ true → allowed e s l ≡ true
is_allowed e s l zero lt h = or_left _ h
is_allowed e s l (suc zero) lt h = or_right (is_some (e s l 0)) (or_left _ h)
is_allowed e s l (suc (suc zero)) lt h = or_right (is_some (e s l 0)) (or_right (is_some (e s l 1)) (or_left _ h))
is_allowed e s l (suc (suc (suc zero))) lt h = or_right (is_some (e s l 0)) (or_right (is_some (e s l 1)) (or_right (is_some (e s l 2)) h))
is_allowed e s l (suc (suc (suc (suc a)))) lt h = absurd (omega arith)

-- in a table in range the answers 0 to 3 are all
pub allowed_ranged : (e : Table) → Ranged e → (s l : ℕ) → Allowed e s l → allowed e s l ≡ true
allowed_ranged e r s l w = is_allowed e s l w.0 (r s l w.0 w.1 w.2).2 (ap is_some w.2)

module _ (f : Option ℕ → Bool) (e : Table) (s l : ℕ) where
  pub each_answer : all f (successors e s l) ≡ true → (a : ℕ) → a < 4 → f (e s l a) ≡ true
  each_answer h zero lt = (both (f (e s l 0)) _ h).0
  each_answer h (suc zero) lt = let x = both (f (e s l 0)) _ h in (both (f (e s l 1)) _ x.1).0
  each_answer h (suc (suc zero)) lt = let x = both (f (e s l 0)) _ h in let y = both (f (e s l 1)) _ x.1 in (both (f (e s l 2)) _ y.1).0
  each_answer h (suc (suc (suc zero))) lt =
      let x = both (f (e s l 0)) _ h in
      let y = both (f (e s l 1)) _ x.1 in
      let z = both (f (e s l 2)) _ y.1 in
      (both (f (e s l 3)) true z.1).0
  each_answer h (suc (suc (suc (suc a)))) lt = absurd (omega arith)

  pub all_answers : ((a : ℕ) → f (e s l a) ≡ true) → all f (successors e s l) ≡ true
  all_answers h = and_true (h 0) (and_true (h 1) (and_true (h 2) (and_true (h 3) refl)))

-- Some answer of four, as a chain looks for one

or_false : (b : Bool) → (b || false) ≡ b
or_false true = refl
or_false false = refl

pub one_of_four : (f : ℕ → Bool) → list_any f (range_with_len 0 4) ≡ (f 0 || (f 1 || (f 2 || f 3)))
one_of_four f = ap (λ b. f 0 || (f 1 || (f 2 || b))) (or_false (f 3))
