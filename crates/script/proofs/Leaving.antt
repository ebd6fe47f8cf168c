-- Calls that leave keys: the error that they pass on, and keys that are those of another definition.
use Rattle.std.proofs.Common.{◌≡◌, Err, Result, subst, sym}
use Rattle.std.specs.Result.{IsErrAnd}
use Rattle.faults.specs.declared.fault.Fault.{Fault}
use Rattle.rules.specs.Script.{Keys}
use Rattle.script.specs.Walk.{Leaves}
use Rattle.script.proofs.Turns.{passed}

pub refused : {X : Type 0} (r : Result X Fault) (f : Fault) (ks : Keys) (q : Result Keys Fault) → IsErrAnd r (λ e. e ≡ f) → q ≡ Err f → Leaves r ks q
refused r f ks q w is = subst (λ v. Leaves v ks q) (sym (passed r f w)) is

pub left_so : {X : Type 0} (r : Result X Fault) (ks : Keys) (p q : Result Keys Fault) → p ≡ q → Leaves r ks q → Leaves r ks p
left_so r ks p q same is = subst (λ v. Leaves r ks v) (sym same) is
