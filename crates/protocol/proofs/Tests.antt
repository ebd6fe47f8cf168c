-- Options, tests and numbers: taken apart, and put together.
use Rattle.std.proofs.Common.{◌≡◌, ℕ, suc, ◌<◌, ◌≤◌, Bool, true, false, cond, not, ◌&&◌, ◌||◌, T, eqb, ltb, leb, ◌≢◌, ◌⊎◌, is_some, Some, None, Option, unwrap_or, sym, refl, ap, ◌∙◌, subst, inl, inr, true≢false, arith, le→leb, eqb→eq, ltb→lt, lt→ltb, leb→le, leb-false}
use lib.Dec.{eqb_refl}

-- Options

pub none_some : {X : Type 0} {x : X} → ◌≡◌ {A = Option X} None (Some x) → ⊥
none_some p = cc

pub some_same : {X : Type 0} {x y : X} → ◌≡◌ {A = Option X} (Some x) (Some y) → x ≡ y
some_same {x = x} p = ap (λ o. unwrap_or o x) p

pub some_of : {X : Type 0} (o : Option X) → is_some o ≡ true → (x : X) × (o ≡ Some x)
some_of (Some x) e = (x, refl)
some_of None e = absurd (true≢false (sym e))

-- what an option is, with the equation
pub cases : {X P : Type 0} (o : Option X) → ((x : X) → o ≡ Some x → P) → (o ≡ None → P) → P
cases (Some x) f g = f x refl
cases None f g = g refl

pub taken : {X : Type 0} (b : Bool) (x y : X) → cond b (Some x) None ≡ Some y → (b ≡ true) × (x ≡ y)
taken true x y q = (refl, some_same q)
taken false x y q = absurd (none_some q)

-- Tests

pub both : (a b : Bool) → (a && b) ≡ true → (a ≡ true) × (b ≡ true)
both true b e = (refl, e)
both false b e = absurd (true≢false (sym e))

pub and_true : {a b : Bool} → a ≡ true → b ≡ true → (a && b) ≡ true
and_true {b = b} p q = ap (λ v. v && b) p ∙ q

pub either : (a b : Bool) → (a || b) ≡ true → (a ≡ true) ⊎ (b ≡ true)
either true b e = inl refl
either false b e = inr e

pub or_left : {a : Bool} (b : Bool) → a ≡ true → (a || b) ≡ true
or_left b p = ap (λ v. v || b) p

pub or_right : (a : Bool) {b : Bool} → b ≡ true → (a || b) ≡ true
or_right true p = refl
or_right false p = p

pub unless : (a b : Bool) → a ≡ true → (not a || b) ≡ true → b ≡ true
unless true b e p = p
unless false b e p = absurd (true≢false (sym e))

pub is_false : (b : Bool) → (b ≡ true → ⊥) → b ≡ false
is_false true no_way = absurd (no_way refl)
is_false false no_way = refl

pub not_true : {b : Bool} → not b ≡ true → b ≡ true → ⊥
not_true {b} p q = true≢false (sym p ∙ ap not q)

pub is_not : (b : Bool) → (b ≡ true → ⊥) → not b ≡ true
is_not true f = absurd (f refl)
is_not false f = refl

pub to_T : (b : Bool) → b ≡ true → T b
to_T b e = subst T (sym e) tt

pub of_T : (b : Bool) → T b → b ≡ true
of_T true t = refl
of_T false t = absurd t

-- Numbers

pub same_number : (m n : ℕ) → eqb m n ≡ true → m ≡ n
same_number m n e = eqb→eq m n (to_T (eqb m n) e)

pub equal_numbers : {m n : ℕ} → m ≡ n → eqb m n ≡ true
equal_numbers {m} e = ap (λ v. eqb m v) (sym e) ∙ of_T (eqb m m) (eqb_refl m)

pub other_numbers : (m n : ℕ) → m ≢ n → eqb m n ≡ false
other_numbers m n ne = by (eqb m n) refl
  where
    by : (b : Bool) → eqb m n ≡ b → eqb m n ≡ false
    by true e = absurd (ne (same_number m n e))
    by false e = e

pub less : (m n : ℕ) → ltb m n ≡ true → m < n
less m n e = ltb→lt m n (to_T (ltb m n) e)

pub is_less : {m n : ℕ} → m < n → ltb m n ≡ true
is_less {m} {n} h = of_T (ltb m n) (lt→ltb m n h)

pub at_most : (m n : ℕ) → leb m n ≡ true → m ≤ n
at_most m n e = leb→le m n (to_T (leb m n) e)

pub is_at_most : {m n : ℕ} → m ≤ n → leb m n ≡ true
is_at_most {m} {n} h = of_T (leb m n) (le→leb m n h)

pub not_less : (m n : ℕ) → ltb m n ≡ false → n ≤ m
not_less m n e = omega (arith, leb-false (suc m) n e)
