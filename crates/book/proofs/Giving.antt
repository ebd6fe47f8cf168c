-- Results that are a value of which a fact holds.
use Rattle.std.proofs.Common.{◌≡◌, Ok, Err, Result, IsOkAnd, sym, refl, subst}

pub ok_and : {X E : Type 0} (P : X → Type 0) (x : X) (r : Result X E) → r ≡ Ok x → P x → IsOkAnd r P
ok_and P x r e p = subst (λ v. IsOkAnd v P) (sym e) p

pub of_ok_and : {X E : Type 0} (P : X → Type 0) (r : Result X E) → IsOkAnd r P → (x : X) × (r ≡ Ok x) × P x
of_ok_and P (Ok x) p = (x, refl, p)
of_ok_and P (Err e) p = absurd p
