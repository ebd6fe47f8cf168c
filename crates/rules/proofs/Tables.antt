-- Tables: the letters that are allowed, and ranges, by which the answers 0 to 3 are all.
use Rattle.std.proofs.Common.{◌≡◌, ℕ, zero, suc, get_or, None, sym, refl, arith}
use Rattle.protocol.specs.Tables.{Table, Ranged, successors}
use Rattle.protocol.proofs.Tests.{cases}

-- Answers

-- the answers 0 to 3 are all
pub row : (e : Table) → Ranged e → (s l a : ℕ) → get_or (successors e s l) a None ≡ e s l a
row e r s l zero = refl
row e r s l (suc zero) = refl
row e r s l (suc (suc zero)) = refl
row e r s l (suc (suc (suc zero))) = refl
row e r s l (suc (suc (suc (suc a)))) =
    cases (e s l (suc (suc (suc (suc a))))) (λ t q. let lt = (r s l (suc (suc (suc (suc a)))) t q).2 in absurd (omega (arith, lt))) sym
