use Rattle.std.proofs.Common.{vec_items, arith}
use Rattle.console.proofs.Pairs.{pair_more}
use Rattle.console.proofs.digits.hex_bytes.Goals as goal

pub loop-rest-preserved : goal.loop-rest-preserved
loop-rest-preserved c = record {
  same = cc (pair_more (vec_items c.loop-rest.bytes) c.loop-rest.rest.now c.in-Some.byte c.in-len2-up.len_at_least c.in-Some.ensures);
  room = omega arith;
}
