-- Grants and returns along a path.
use Rattle.std.proofs.Common.{◌≡◌, ℕ, ◌+◌, Bool, true, false, not, ◌&&◌, List, [], ◌∷◌, ap, arith}
use Rattle.protocol.specs.declared.edges.Entry.{Entry}
use Rattle.protocol.specs.Tables.{Table}
use Rattle.protocol.specs.Paths.{Path, one_if, away, grants, returns, PathsBalance}

-- one letter more in front, from a station that is away or not to one that is away or not
turn : (a b : Bool) (g r t : ℕ) → g + one_if (not b) ≡ r + t → one_if (a && not b) + g + one_if (not a) ≡ one_if (not a && b) + r + t
turn true true g r t e = omega (arith, e)
turn true false g r t e = omega (arith, e)
turn false true g r t e = omega (arith, e)
turn false false g r t e = omega (arith, e)

along : (e : Table) (es : List Entry) (s t : ℕ) → Path e s es t → grants s es + one_if (not (away s)) ≡ returns s es + one_if (not (away t))
along e [] s t p = ap (λ (v : ℕ). 0 + one_if (not (away v))) p
along e (x ∷ es) s t p = turn (away s) (away x.station) (grants x.station es) (returns x.station es) (one_if (not (away t))) (along e es x.station t p.1)

pub balance : PathsBalance
balance e es t p = omega (arith, along e es 0 t p)
