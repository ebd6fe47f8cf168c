-- Results in turn: what stops them, and how they are grouped.
use Rattle.std.proofs.Common.{◌≡◌, Bool, true, false, Some, None, Option, Ok, Err, Result, refl, ap, ◌∙◌}
use Rattle.std.specs.Option.{ok_or}
use Rattle.std.specs.Result.{IsErrAnd}
use Rattle.std.proofs.lemmas.Result.{err_from_is_err_and}
use Rattle.faults.specs.declared.fault.Fault.{Fault}
use Rattle.faults.specs.Results.{◌>>=◌, need}
use Rattle.rules.specs.Check.{or_fault}

pub stops : {X Y E : Type 0} {r : Result X E} {e : E} (f : X → Result Y E) → r ≡ Err e → (r >>= f) ≡ Err e
stops f p = ap (λ v. v >>= f) p

pub unmet : {X E : Type 0} (b : Bool) (e : E) (f : Unit {0} → Result X E) → b ≡ false → (need b e >>= f) ≡ Err e
unmet b e f p = ap (λ v. need v e >>= f) p

-- what is needed first can give the value that is used later
pub needed_first : {X Y E : Type 0} (b : Bool) (e : E) (x : X) (f : X → Result Y E) → (need b e >>= (λ _. f x)) ≡ ((need b e >>= (λ _. Ok x)) >>= f)
needed_first true e x f = refl
needed_first false e x f = refl

-- a check of what came, and then what follows
module _ {X Y E : Type 0} (f : X → Result (Unit {0}) E) (g : X → Result Y E) where
  after : (x : X) (u : Result (Unit {0}) E) → (u >>= (λ _. g x)) ≡ ((u >>= (λ _. Ok x)) >>= g)
  after x (Ok v) = refl
  after x (Err e) = refl

  pub in_turn : (r : Result X E) → (r >>= (λ x. f x >>= (λ _. g x))) ≡ ((r >>= (λ x. f x >>= (λ _. Ok x))) >>= g)
  in_turn (Ok x) = after x (f x)
  in_turn (Err e) = refl

-- an error that `?` passes on
pub passed : {X E : Type 0} (r : Result X E) (f : E) → IsErrAnd r (λ e. e ≡ f) → r ≡ Err f
passed r f w = let p = err_from_is_err_and r w in p.1 ∙ ap (λ v. Err v) p.2

pub or_faulty : {X : Type 0} (o : Option X) (e : Fault) → or_fault o e ≡ ok_or o e
or_faulty None e = refl
or_faulty (Some x) e = refl
