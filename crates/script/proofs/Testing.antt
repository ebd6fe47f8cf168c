-- The tests of lists that the check makes, and what std's answer for them.
use Rattle.std.proofs.Common.{◌≡◌, ℕ, ◌<◌, Bool, true, ◌&&◌, eqb, List, [], ◌∷◌, length, Decides, sym, refl, ap, ◌∙◌, subst}
use lib.Pointwise.{pointwise}
use Rattle.std.proofs.lemmas.Slice.Eq.{slice_eq-Decides}
use Rattle.std.specs.List.{HoldsAt, IsAnyAnswer}
use Rattle.std.proofs.lemmas.List.Elements.{contains_decides}
use Rattle.std.proofs.lemmas.List.{get_or_default}
use Rattle.std.proofs.lemmas.Bool.Decides.{same_from_decides, Decides-eqb}
use Rattle.rules.specs.Lists.{same, has}
use Rattle.rules.proofs.Lists.{same_lists, same_self, has_at, has_where}

pub same_decides : (xs ys : List ℕ) → Decides (same xs ys) (xs ≡ ys)
same_decides xs ys = (same_lists xs ys, λ e. subst (λ v. same xs v ≡ true) e (same_self xs))

pub has_decides : (n : ℕ) (xs : List ℕ) → Decides (has n xs) ((k : ℕ) × (k < length xs) × HoldsAt (λ y. y ≡ n) xs k)
has_decides n xs = (
  λ e. let w = has_where n xs e in (w.0, w.1, λ d. get_or_default xs w.0 d 0 w.1 ∙ sym w.2),
  λ w. has_at n xs w.0 w.1 (sym (w.2 0)),
)

pub contains_has : (xs : List ℕ) (n : ℕ) (r : Bool) → IsAnyAnswer (λ y t. eqb y n ≡ t) xs r → r ≡ has n xs
contains_has xs n r h = same_from_decides r (has n xs) (contains_decides eqb Decides-eqb xs n r h) (has_decides n xs)

pub same_pointwise : (xs ys : List ℕ) → pointwise eqb xs ys ≡ same xs ys
same_pointwise [] [] = refl
same_pointwise [] (y ∷ ys) = refl
same_pointwise (x ∷ xs) [] = refl
same_pointwise (x ∷ xs) (y ∷ ys) = ap (λ b. eqb x y && b) (same_pointwise xs ys)

pub same_turned : (xs ys : List ℕ) → pointwise eqb ys xs ≡ same xs ys
same_turned xs ys =
    let d = slice_eq-Decides Decides-eqb ys xs (pointwise eqb ys xs) refl in
    same_from_decides (pointwise eqb ys xs) (same xs ys) (λ e. sym (d.0 e), λ e. d.1 (sym e)) (same_decides xs ys)
