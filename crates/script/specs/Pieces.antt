-- The blocks of the code, and parts of them.
use Rattle.std.specs.Prelude.{◌≡◌, ℕ, ◌+◌, ◌<◌, ◌≤◌, List, [], ◌∷◌, length, take, drop, Some, None, Option}
use Rattle.rules.specs.Script as rules
use Rattle.script.specs.declared.block.Block.{Block}
use Rattle.script.specs.declared.blocks.Blocks.{Blocks}

abbrev pub piece : Block → rules.Block
piece b = record { place = b.place; bytes = b.bytes.now }

-- in the order of the answers
abbrev pub pieces : Blocks → List rules.Block
pieces bs = piece bs.zero ∷ piece bs.one ∷ piece bs.two ∷ piece bs.three ∷ []

abbrev pub front : ℕ → rules.Block → rules.Block
front n b = record { place = b.place; bytes = take n b.bytes }

abbrev pub past : ℕ → rules.Block → rules.Block
past n b = record { place = b.place + n; bytes = drop n b.bytes }

-- cut behind that many bytes, where there are as many
abbrev pub Cuts : ℕ → rules.Block → Option (Block × Block) → Type 0
Cuts n b None = length b.bytes < n
Cuts n b (Some x) = (n ≤ length b.bytes) × (piece x.0 ≡ front n b) × (piece x.1 ≡ past n b)
