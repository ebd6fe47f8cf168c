-- All of a list: tests, and what they say; members.
use Rattle.std.proofs.Common.{◌≡◌, ℕ, zero, suc, Bool, true, false, cond, List, [], ◌∷◌, ◌++◌, filter, get_or, sym, refl, ◌∙◌, subst, inl, inr}
use Rattle.protocol.specs.Lists.{all, Each, SomeOne, Apart}
use Rattle.protocol.proofs.Tests.{both, and_true}

pub each_at : {X : Type 0} (P : X → Type 0) (xs : List X) (d : X) → P d → Each P xs → (i : ℕ) → P (get_or xs i d)
each_at P [] d pd a i = pd
each_at P (x ∷ xs) d pd a zero = a.0
each_at P (x ∷ xs) d pd a (suc i) = each_at P xs d pd a.1 i

pub each_join : {X : Type 0} (P : X → Type 0) (xs ys : List X) → Each P xs → Each P ys → Each P (xs ++ ys)
each_join P [] ys a b = b
each_join P (x ∷ xs) ys a b = (a.0, each_join P xs ys a.1 b)

pub all_each : {X : Type 0} (f : X → Bool) (P : X → Type 0) → ((x : X) → f x ≡ true → P x) → (xs : List X) → all f xs ≡ true → Each P xs
all_each f P h [] e = tt
all_each f P h (x ∷ xs) e = let p = both (f x) (all f xs) e in (h x p.0, all_each f P h xs p.1)

pub each_all : {X : Type 0} (f : X → Bool) (P : X → Type 0) → ((x : X) → P x → f x ≡ true) → (xs : List X) → Each P xs → all f xs ≡ true
each_all f P h [] a = refl
each_all f P h (x ∷ xs) a = and_true (h x a.0) (each_all f P h xs a.1)

pub all_more : {X : Type 0} (f : X → Bool) (xs : List X) (x : X) → all f xs ≡ true → f x ≡ true → all f (xs ++ (x ∷ [])) ≡ true
all_more f [] x ok h = and_true h refl
all_more f (y ∷ xs) x ok h = let p = both (f y) (all f xs) ok in and_true p.0 (all_more f xs x p.1 h)

-- what holds of all holds of those that pass a test
pub each_passed : {X : Type 0} (f : X → Bool) (P Q : X → Type 0) → ((x : X) → f x ≡ true → P x → Q x) → (xs : List X) → Each P xs → Each Q (filter f xs)
each_passed f P Q h [] a = tt
each_passed {X} f P Q h (x ∷ xs) a = by (f x) refl (each_passed f P Q h xs a.1)
  where
    by : (b : Bool) → f x ≡ b → Each Q (filter f xs) → Each Q (cond b (x ∷ filter f xs) (filter f xs))
    by true e rest = (h x e a.0, rest)
    by false e rest = rest

-- Members

abbrev pub In : {X : Type 0} → X → List X → Type 0
In x xs = SomeOne (λ y. y ≡ x) xs

pub each_in : {X : Type 0} (P : X → Type 0) (xs : List X) (x : X) → Each P xs → In x xs → P x
each_in P [] x a m = absurd m
each_in P (y ∷ xs) x a (inl e) = subst P e a.0
each_in P (y ∷ xs) x a (inr m) = each_in P xs x a.1 m

pub in_each : {X : Type 0} (P : X → Type 0) (xs : List X) → ((x : X) → In x xs → P x) → Each P xs
in_each P [] f = tt
in_each P (x ∷ xs) f = (f x (inl refl), in_each P xs (λ y m. f y (inr m)))

pub some_in : {X : Type 0} (P : X → Type 0) (xs : List X) → SomeOne P xs → (x : X) × In x xs × P x
some_in P [] s = absurd s
some_in P (x ∷ xs) (inl p) = (x, inl refl, p)
some_in P (x ∷ xs) (inr s) = let w = some_in P xs s in (w.0, inr w.1, w.2)

pub in_some : {X : Type 0} (P : X → Type 0) (xs : List X) (x : X) → In x xs → P x → SomeOne P xs
in_some P [] x m p = absurd m
in_some P (y ∷ xs) x (inl e) p = inl (subst P (sym e) p)
in_some P (y ∷ xs) x (inr m) p = inr (in_some P xs x m p)

-- Parts

pub each_parts : {X : Type 0} (P : X → Type 0) (xs ys : List X) → Each P (xs ++ ys) → Each P xs × Each P ys
each_parts P [] ys a = (tt, a)
each_parts P (x ∷ xs) ys a = let w = each_parts P xs ys a.1 in ((a.0, w.0), w.1)

module _ {X : Type 0} (Alike : X → X → Type 0) where
  -- members that are alike are the same
  pub apart_same : ((x y : X) → Alike x y → Alike y x) → (xs : List X) → Apart Alike xs → (x y : X) → In x xs → In y xs → Alike x y → x ≡ y
  apart_same turn [] a x y m n s = absurd m
  apart_same turn (z ∷ xs) a x y (inl p) (inl q) s = sym p ∙ q
  apart_same turn (z ∷ xs) a x y (inl p) (inr n) s = absurd (each_in (λ v. Alike z v → ⊥) xs y a.0 n (subst (λ v. Alike v y) (sym p) s))
  apart_same turn (z ∷ xs) a x y (inr m) (inl q) s = absurd (each_in (λ v. Alike z v → ⊥) xs x a.0 m (turn x z (subst (λ v. Alike x v) (sym q) s)))
  apart_same turn (z ∷ xs) a x y (inr m) (inr n) s = apart_same turn xs a.1 x y m n s

  pub apart_more : (xs : List X) (x : X) → Apart Alike xs → Each (λ y. Alike y x → ⊥) xs → Apart Alike (xs ++ (x ∷ []))
  apart_more [] x a b = (tt, tt)
  apart_more (y ∷ xs) x a b = (each_join (λ v. Alike y v → ⊥) xs (x ∷ []) a.0 (b.0, tt), apart_more xs x a.1 b.1)

  pub apart_before : (xs : List X) (x : X) (ys : List X) → Apart Alike (xs ++ (x ∷ ys)) → Each (λ y. Alike y x → ⊥) xs
  apart_before [] x ys a = tt
  apart_before (y ∷ xs) x ys a = ((each_parts (λ v. Alike y v → ⊥) xs (x ∷ ys) a.0).1.0, apart_before xs x ys a.1)

  pub apart_passed : (f : X → Bool) (xs : List X) → Apart Alike xs → Apart Alike (filter f xs)
  apart_passed f [] a = tt
  apart_passed f (x ∷ xs) a = by (f x) (apart_passed f xs a.1)
    where
      by : (b : Bool) → Apart Alike (filter f xs) → Apart Alike (cond b (x ∷ filter f xs) (filter f xs))
      by true rest = (each_passed f (λ y. Alike x y → ⊥) (λ y. Alike x y → ⊥) (λ y e n. n) xs a.0, rest)
      by false rest = rest
