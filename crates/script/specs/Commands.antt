-- The commands of the code, and how they are read.
use Rattle.std.specs.Prelude.{◌≡◌, ℕ, Bool, true, false, List, length, Some, None, Ok, Err, Option, Result, nat_le}
use Rattle.faults.specs.declared.fault.Fault.{Fault}
use Rattle.faults.specs.declared.causes.LayoutCause.TheVariants.{BadCommand}
use Rattle.faults.specs.Numbers.{layout_fault}
use Rattle.rules.specs.Lists.{total}
use Rattle.rules.specs.Script as rules
use Rattle.rules.specs.Script.{cut, in_range, send, ask, repeat, run, store, dec, cue, fail, broken, command}
use Rattle.script.specs.declared.block.Block.{Block}
use Rattle.script.specs.declared.command.Command.{Command}
use Rattle.script.specs.declared.command.Command.TheVariants.{Send, Ask, Repeat, Run, Set, Dec, Cue, Fail}
use Rattle.script.specs.Pieces.{piece, pieces, front, past}

abbrev pub said : Command → rules.Command
said (Send h l r) = send h l r
said (Ask h l bs) = ask h l (pieces bs)
said (Repeat r b) = repeat r (piece b)
said (Run p bs) = run p bs.now
said (Set r v) = store r v
said (Dec r) = dec r
said (Cue n) = cue n
said (Fail c) = fail c

-- in range, but for a RUN, of which the part is looked up first
abbrev pub in_range_so : rules.Scope → rules.Command → Bool
in_range_so x (send h l r) = in_range x (send h l r)
in_range_so x (ask h l bs) = in_range x (ask h l bs)
in_range_so x (repeat r b) = in_range x (repeat r b)
in_range_so x (run p bs) = true
in_range_so x (store r v) = in_range x (store r v)
in_range_so x (dec r) = in_range x (dec r)
in_range_so x (cue n) = in_range x (cue n)
in_range_so x (fail c) = in_range x (fail c)

-- the command that the code reads, and the rest, are what the definition reads
abbrev pub Reads : Option (Command × Block) → rules.Read → Type 0
Reads None q = q ≡ broken
Reads (Some x) q = q ≡ command (said x.0) (piece x.1)

-- what the code reads at the place is what the definition reads
abbrev pub Gives : ℕ → Result (Command × Block) Fault → rules.Read → Type 0
Gives place (Ok x) q = q ≡ command (said x.0) (piece x.1)
Gives place (Err e) q = (q ≡ broken) × (e ≡ layout_fault BadCommand place)

-- what a block begins with: nothing exactly where it is empty
abbrev pub Begins : Block → Option (Result (Command × Block) Fault) → Type 0
Begins b None = rules.first (piece b) ≡ rules.nothing
Begins b (Some r) = Gives b.place r (rules.first (piece b))

-- an ASK and a REPEAT whose blocks stand in the tail
abbrev pub ask_at : ℕ → ℕ → List ℕ → rules.Block → rules.Read
ask_at h l ns tail =
    elim (nat_le (total ns) (length tail.bytes)) [
      | false ↦ broken
      | true ↦ command (ask h l (cut tail.place tail.bytes ns)) (past (total ns) tail)
    ]

abbrev pub repeat_at : ℕ → ℕ → rules.Block → rules.Read
repeat_at r n tail =
    elim (nat_le n (length tail.bytes)) [ false ↦ broken | true ↦ command (repeat r (front n tail)) (past n tail) ]
