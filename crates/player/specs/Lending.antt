-- The topmost open block, lent.
use Rattle.std.specs.Prelude.{◌-◌, length, Option}
use Rattle.std.specs.Borrow.{LendsIf, MutBor, Fml, RattleType}
use Rattle.arrayvec.specs.ArrayVec.{with_item}
use Rattle.player.specs.declared.open_blocks.OpenBlocks.{OpenBlocks}
use Rattle.player.specs.contracts.open_blocks.OpenBlocks.{the_row}

-- with another topmost block
abbrev pub with_top : {F : Type 0} → OpenBlocks F → F → OpenBlocks F
with_top o f = record { frames = with_item o.frames (length o.frames.items - 1) f }

-- they end with the last value behind the reference for the topmost, and as they were where there is none
abbrev pub LendsTop : (F : RattleType) → MutBor (OpenBlocks F.Denot) → Option (MutBor F.Denot) → Fml
LendsTop F o r = LendsIf (the_row F) F o r (with_top o.now) o.now
