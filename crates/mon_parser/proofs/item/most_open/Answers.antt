use Rattle.std.proofs.Common.{◌*◌, Fits, w64, rules, arith}
use Rattle.mon_parser.proofs.Scanning.{after_most, scan_more, scan_ends}
use Rattle.mon_parser.proofs.item.most_open.Goals as goal

pub open_after-depth-requires : goal.open_after-depth-requires
open_after-depth-requires c = let room : Fits w64 (c.loop-token.token-index * 40) = search rules in omega (arith, room, c.loop-token.invariant.few)

pub loop-token-preserved : goal.loop-token-preserved
loop-token-preserved c = record {
  whole = scan_more _ _ _ _ _ _ _ _ c.loop-token-test.true c.token-item.is c.open_after-depth.ensures c.greater-most.ensures c.loop-token.invariant.within c.loop-token.invariant.whole;
  few = omega (arith, c.open_after-depth.ensures, c.loop-token.invariant.few, after_most c.loop-token.depth c.token-item.result.kind);
  within = omega (arith, c.greater-most.ensures);
}

pub returns : goal.returns
returns c = scan_ends c.args.tokens.now c.loop-token.token-index _ _ _ (omega (arith, c.loop-token-test.false)) c.loop-token.invariant.within c.loop-token.invariant.whole
