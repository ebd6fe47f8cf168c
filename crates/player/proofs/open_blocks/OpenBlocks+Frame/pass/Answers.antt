use Rattle.std.proofs.Common.{sym, arith}
use Rattle.player.proofs.Lending.{top_passes}
use Rattle.player.proofs.open_blocks.OpenBlocks+Frame.pass.Goals as goal

pub returns-in-Some : goal.returns-in-Some
returns-in-Some c =
    let item = c.in-Some.ensures.item in
    top_passes c.args.self.now.frames.items c.in-Some.top.now c.args.rest (omega (arith, item.3.0)) (sym item.1)
