-- The commands of a book's bytes.
use Rattle.std.specs.Prelude.{ℕ, zero, suc, ◌+◌, cond, List, [], ◌∷◌, take, drop, ◌==◌, slice_index}
use Rattle.protocol.specs.declared.edges.Edge.{Edge}
use Rattle.book.specs.declared.automaton.Retreat.{Retreat}

pub data Code : Type 0 where
  KIND EDGE RETREAT OTHER : Code

abbrev pub code_of : ℕ → Code
code_of c = cond (c == 0x01) KIND (cond (c == 0x02) EDGE (cond (c == 0x03) RETREAT OTHER))

-- how many operands
abbrev pub width : Code → ℕ
width KIND = 1
width EDGE = 4
width RETREAT = 3
width OTHER = 0

-- a command as read; it has too few operands where the bytes end in it
pub record Command : Type 0 where
  pub place : ℕ
  pub code : Code
  pub operands : List ℕ

-- the commands of the bytes that start at the place; the first number bounds their count
abbrev pub commands : ℕ → ℕ → List ℕ → List Command
commands zero at bs = []
commands (suc n) at [] = []
commands (suc n) at (c ∷ bs) =
    let w : ℕ = width (code_of c) in
    record { place = at; code = code_of c; operands = take w bs } ∷ commands n (at + suc w) (drop w bs)

abbrev pub edge_from : List ℕ → Edge
edge_from os = record { from = slice_index os 0; letter = slice_index os 1; answer = slice_index os 2; to = slice_index os 3 }

abbrev pub retreat_from : List ℕ → Retreat
retreat_from os = record { station = slice_index os 0; letter = slice_index os 1; rank = slice_index os 2 }
