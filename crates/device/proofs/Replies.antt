-- A device whose table is a list of edges: it has a declared answer for every letter that is allowed.
use Rattle.std.proofs.Common.{ℕ, List}
use Rattle.protocol.specs.declared.edges.Edge.{Edge}
use Rattle.protocol.specs.Lists.{Each}
use Rattle.protocol.specs.Tables.{Allowed, Declared, table_of}
use Rattle.protocol.proofs.Ranges.{each_led}

-- where it answers by station and letter, it is enough to look at each edge of the list
pub replies : (es : List Edge) (reply : ℕ → ℕ → ℕ) → Each (λ e. Declared (table_of es) e.from e.letter (reply e.from e.letter)) es →
    (s l : ℕ) → Allowed (table_of es) s l → Declared (table_of es) s l (reply s l)
replies es reply each s l w = each_led (λ x y a t. Declared (table_of es) x y (reply x y)) es each s l w.0 w.1 w.2
