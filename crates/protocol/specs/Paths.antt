-- What a port heard: paths of its protocol, grants and returns.
use Rattle.std.specs.Prelude.{◌≡◌, ℕ, ◌+◌, Bool, true, false, cond, not, ◌&&◌, List, [], ◌∷◌, Some, ◌==◌}
use Rattle.protocol.specs.declared.edges.Entry.{Entry}
use Rattle.protocol.specs.Tables.{Table}

-- the entries of one port
abbrev pub of_port : ℕ → List Entry → List Entry
of_port i [] = []
of_port i (e ∷ es) = cond (e.port == i) (e ∷ of_port i es) (of_port i es)

-- each entry leads, by letter and answer, along an edge from the station before to its own
abbrev pub Path : Table → ℕ → List Entry → ℕ → Type 0
Path e s [] t = s ≡ t
Path e s (x ∷ xs) t = (e s x.letter x.answer ≡ Some x.station) × Path e x.station xs t

abbrev pub one_if : Bool → ℕ
one_if true = 1
one_if false = 0

abbrev pub away : ℕ → Bool
away s = s == 0

-- how many letters lead from away to another station, the first from the station given
abbrev pub grants : ℕ → List Entry → ℕ
grants s [] = 0
grants s (e ∷ es) = one_if (away s && not (away e.station)) + grants e.station es

-- how many lead from another station to away
abbrev pub returns : ℕ → List Entry → ℕ
returns s [] = 0
returns s (e ∷ es) = one_if (not (away s) && away e.station) + returns e.station es

-- a path from away has as many grants as returns, and one grant more exactly where it does not end away
abbrev pub PathsBalance : Type 0
PathsBalance = (e : Table) (es : List Entry) (t : ℕ) → Path e 0 es t → grants 0 es ≡ returns 0 es + one_if (not (away t))
