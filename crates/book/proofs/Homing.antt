-- The marks of a draft beside its retreats: each station that is named has one.
use Rattle.std.proofs.Common.{◌≡◌, ℕ, zero, suc, Bool, true, false, not, ◌||◌, eqb, List, [], ◌∷◌, length, get_or, drop, is_some, None, Option, sym, refl, inl, inr, true≢false, arith}
use Rattle.std.specs.List.{list_all, zip}
use Rattle.protocol.proofs.Tests.{both, and_true, either, or_right, same_number, unless}
use Rattle.book.specs.declared.automaton.Retreat.{Retreat}
use Rattle.book.specs.Kinds.{homed}

abbrev pub has_one : Bool × Option Retreat → Bool
has_one p = not p.0 || is_some p.1

zip_has : (ns : List Bool) (rs : List (Option Retreat)) → length ns ≡ length rs → list_all has_one (zip ns rs) ≡ true →
    (s : ℕ) → get_or ns s false ≡ true → is_some (get_or rs s None) ≡ true
zip_has [] rs len ok s n = absurd (true≢false (sym n))
zip_has (m ∷ ns) [] len ok s n = absurd (omega (arith, len))
zip_has (m ∷ ns) (r ∷ rs) len ok zero n = unless m (is_some r) n (both (not m || is_some r) _ ok).0
zip_has (m ∷ ns) (r ∷ rs) len ok (suc s) n = zip_has ns rs (omega (arith, len)) (both (not m || is_some r) _ ok).1 s n

has_zip : (ns : List Bool) (rs : List (Option Retreat)) → ((s : ℕ) → get_or ns s false ≡ true → is_some (get_or rs s None) ≡ true) → list_all has_one (zip ns rs) ≡ true
has_zip [] rs f = refl
has_zip (m ∷ ns) [] f = refl
has_zip (m ∷ ns) (r ∷ rs) f = and_true (marked m (f 0)) (has_zip ns rs (λ s n. f (suc s) n))
  where
    marked : (m : Bool) → (m ≡ true → is_some r ≡ true) → (not m || is_some r) ≡ true
    marked true h = h refl
    marked false h = refl

-- away is the first, and needs none
pub homed_behind : (ns : List Bool) (rs : List (Option Retreat)) → length ns ≡ length rs → list_all has_one (drop 1 (zip ns rs)) ≡ true →
    (s : ℕ) → get_or ns s false ≡ true → homed (λ t. get_or rs t None) s ≡ true
homed_behind ns rs len ok zero n = refl
homed_behind [] rs len ok (suc s) n = absurd (true≢false (sym n))
homed_behind (m ∷ ns) [] len ok (suc s) n = absurd (omega (arith, len))
homed_behind (m ∷ ns) (r ∷ rs) len ok (suc s) n = or_right (eqb (suc s) 0) (zip_has ns rs (omega (arith, len)) ok s n)

pub behind_homed : (ns : List Bool) (rs : List (Option Retreat)) → ((s : ℕ) → get_or ns s false ≡ true → homed (λ t. get_or rs t None) s ≡ true) →
    list_all has_one (drop 1 (zip ns rs)) ≡ true
behind_homed [] rs f = refl
behind_homed (m ∷ ns) [] f = refl
behind_homed (m ∷ ns) (r ∷ rs) f = has_zip ns rs (λ s n. elim (either (eqb (suc s) 0) (is_some (get_or rs s None)) (f (suc s) n)) [
  | inl p ↦ absurd (omega (arith, same_number (suc s) 0 p))
  | inr h ↦ h
])
