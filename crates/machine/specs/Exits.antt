-- Fault exits: every port is led away by its retreat letters.
use Rattle.std.specs.Prelude.{ℕ, zero, suc, List, [], ◌∷◌, length, Some, None}
use Rattle.book.specs.Kinds.{retreat_of}
use Rattle.rules.specs.Lists.{from}
use Rattle.machine.specs.Dialogue.{Dialogue, done, ◌>>=◌}
use Rattle.machine.specs.Player.{Player, finished, port_kind, kept, tell}

-- that of the station which the port has now
abbrev pub retreat_letter : Player → ℕ → ℕ
retreat_letter p i = elim (retreat_of (port_kind p.script i).retreats (kept p i)) [ Some r ↦ r.letter | None ↦ 0 ]

-- at away nothing, elsewhere the retreat letter, and then the rest
abbrev pub retreat_from : ℕ → (Player → Dialogue Player) → ℕ → Player → Dialogue Player
retreat_from zero next i p = done p
retreat_from (suc s) next i p = tell p i (retreat_letter p i) >>= (λ got. next got.1)

-- while the port is not away, the retreat letter of the station that it has then, so many times at most
abbrev pub withdraw : ℕ → ℕ → Player → Dialogue Player
withdraw zero i p = done p
withdraw (suc n) i p = retreat_from (kept p i) (withdraw n i) i p

-- ranks are at most 15 and fall with each letter, so 15 letters suffice
abbrev pub withdraw_all : List ℕ → Player → Dialogue Player
withdraw_all [] p = done p
withdraw_all (i ∷ is) p = withdraw 15 i p >>= (λ q. withdraw_all is q)

-- the ports in rising order, and then the player is over
abbrev pub fault_exit : Player → Dialogue Player
fault_exit p = withdraw_all (from 0 (length p.stations)) p >>= (λ q. done (finished q))
