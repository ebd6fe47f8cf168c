-- Look-ups of the first in a list that passes a test, and tables of edges.
use Rattle.std.proofs.Common.{◌≡◌, ℕ, Bool, true, false, cond, ◌&&◌, eqb, List, [], ◌∷◌, ◌++◌, is_some, Some, None, Option, sym, refl, ap, ◌∙◌, inl, inr}
use Rattle.protocol.specs.declared.edges.Edge.{Edge}
use Rattle.protocol.specs.Lists.{Apart, first_of}
use Rattle.protocol.specs.Tables.{SameEdge, leads, table_of}
use Rattle.protocol.proofs.Tests.{some_of, both, and_true, none_some, some_same, same_number, equal_numbers}
use Rattle.protocol.proofs.Lists.{In, apart_same}

-- what is found is of one in the list that passes
abbrev pub Found : {X Y : Type 0} → (X → Bool) → (X → Y) → List X → Y → Type 0
Found {X} f g xs y = (x : X) × In x xs × (f x ≡ true) × (g x ≡ y)

pub first_found : {X Y : Type 0} (f : X → Bool) (g : X → Y) (xs : List X) (y : Y) → first_of f g xs ≡ Some y → Found f g xs y
first_found f g [] y q = absurd (none_some q)
first_found f g (x ∷ xs) y q = by (f x) refl q (first_found f g xs y)
  where
    by : (b : Bool) → f x ≡ b → cond b (Some (g x)) (first_of f g xs) ≡ Some y → (first_of f g xs ≡ Some y → Found f g xs y) → Found f g (x ∷ xs) y
    by true e p ih = (x, inl refl, e, some_same p)
    by false e p ih = let w = ih p in (w.0, inr w.1, w.2, w.3)

-- where one passes, one is found
pub first_there : {X Y : Type 0} (f : X → Bool) (g : X → Y) (xs : List X) (x : X) → In x xs → f x ≡ true → is_some (first_of f g xs) ≡ true
first_there f g [] x m e = absurd m
first_there f g (y ∷ xs) x (inl i) e = ap (λ b. is_some (cond b (Some (g y)) (first_of f g xs))) (ap f i ∙ e)
first_there f g (y ∷ xs) x (inr m) e = by (f y) (first_there f g xs x m e)
  where
    by : (b : Bool) → is_some (first_of f g xs) ≡ true → is_some (cond b (Some (g y)) (first_of f g xs)) ≡ true
    by true h = refl
    by false h = h

-- where it passes the test, none before it did
pub first_added : {X Y : Type 0} (f : X → Bool) (g : X → Y) (xs : List X) (x : X) → (f x ≡ true → first_of f g xs ≡ None) →
    first_of f g (xs ++ (x ∷ [])) ≡ cond (f x) (Some (g x)) (first_of f g xs)
first_added f g [] x new = refl
first_added {X} {Y} f g (y ∷ ys) x new = by (f y) new (first_added f g ys x)
  where
    kept : (b : Bool) → (b ≡ true → ◌≡◌ {A = Option Y} (Some (g y)) None) → Some (g y) ≡ cond b (Some (g x)) (Some (g y))
    kept true none = absurd (none_some (sym (none refl)))
    kept false none = refl

    by : (b : Bool) → (f x ≡ true → cond b (Some (g y)) (first_of f g ys) ≡ None) →
        ((f x ≡ true → first_of f g ys ≡ None) → first_of f g (ys ++ (x ∷ [])) ≡ cond (f x) (Some (g x)) (first_of f g ys)) →
        cond b (Some (g y)) (first_of f g (ys ++ (x ∷ []))) ≡ cond (f x) (Some (g x)) (cond b (Some (g y)) (first_of f g ys))
    by true none ih = kept (f x) none
    by false none ih = ih none

-- what an edge of a station, letter and answer says of them
pub led : (e : Edge) (s l a : ℕ) → leads e s l a ≡ true → (e.from ≡ s) × (e.letter ≡ l) × (e.answer ≡ a)
led e s l a q =
    let p = both (eqb e.from s) (eqb e.letter l && eqb e.answer a) q in
    let r = both (eqb e.letter l) (eqb e.answer a) p.1 in
    (same_number e.from s p.0, same_number e.letter l r.0, same_number e.answer a r.1)

pub is_led : (e : Edge) (s l a : ℕ) → e.from ≡ s → e.letter ≡ l → e.answer ≡ a → leads e s l a ≡ true
is_led e s l a p q r = and_true (equal_numbers p) (and_true (equal_numbers q) (equal_numbers r))

pub table_added : (es : List Edge) (e : Edge) → table_of es e.from e.letter e.answer ≡ None → (s l a : ℕ) →
    table_of (es ++ (e ∷ [])) s l a ≡ cond (leads e s l a) (Some e.to) (table_of es s l a)
table_added es e new s l a = first_added (λ x. leads x s l a) (λ x. x.to) es e (λ q.
    let p = led e s l a q in
    (λ i. table_of es (sym p.0 i) (sym p.1 i) (sym p.2 i)) ∙ new)

-- Edges that are looked up

pub edge_found : (es : List Edge) (s l a t : ℕ) → table_of es s l a ≡ Some t →
    (e : Edge) × In e es × (e.from ≡ s) × (e.letter ≡ l) × (e.answer ≡ a) × (e.to ≡ t)
edge_found es s l a t q =
    let w = first_found (λ e. leads e s l a) (λ e. e.to) es t q in
    let p = led w.0 s l a w.2 in
    (w.0, w.1, p.0, p.1, p.2, w.3)

pub edge_there : (es : List Edge) (e : Edge) (s l a : ℕ) → In e es → e.from ≡ s → e.letter ≡ l → e.answer ≡ a → is_some (table_of es s l a) ≡ true
edge_there es e s l a m p q r = first_there (λ f. leads f s l a) (λ f. f.to) es e m (is_led e s l a p q r)

-- where no two are of one station, letter and answer
pub edge_leads : (es : List Edge) → Apart SameEdge es → (e : Edge) (s l : ℕ) → In e es → e.from ≡ s → e.letter ≡ l → table_of es s l e.answer ≡ Some e.to
edge_leads es new e s l m p q =
    let w = some_of (table_of es s l e.answer) (edge_there es e s l e.answer m p q refl) in
    let f = edge_found es s l e.answer w.0 w.1 in
    let same : f.0 ≡ e = apart_same SameEdge (λ x y h. (sym h.0, sym h.1, sym h.2)) es new f.0 e f.1 m (f.2 ∙ sym p, f.3 ∙ sym q, f.4) in
    w.1 ∙ ap (λ (t : ℕ). Some t) (sym f.5 ∙ ap (λ (v : Edge). v.to) same)
