use Rattle.mon_compile.proofs.Twice.{no_twin, first_twin}
use Rattle.mon_compile.proofs.duplicates.duplicate.Goals as goal

pub returns-in-Some : goal.returns-in-Some
returns-in-Some c = first_twin c.args.items.now c.loop-k.k _ _ c.in-Some.line c.loop-k-test.true c.index-items-k.is c.duplicate_at.ensures c.in-Some.is c.loop-k.invariant

pub loop-k-preserved : goal.loop-k-preserved
loop-k-preserved c = no_twin c.args.items.now c.loop-k.k _ _ c.loop-k-test.true c.index-items-k.is c.duplicate_at.ensures c.in_default.is c.loop-k.invariant
