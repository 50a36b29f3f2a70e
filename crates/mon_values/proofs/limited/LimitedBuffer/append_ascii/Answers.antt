use Rattle.std.proofs.Common.{sym}
use Rattle.mon_values.proofs.Limits.{written_none, written_more}
use Rattle.mon_values.proofs.limited.LimitedBuffer.append_ascii.Goals as goal

pub loop-byte-init : goal.loop-byte-init
loop-byte-init c = sym (written_none c.args.self.now)

pub loop-byte-preserved : goal.loop-byte-preserved
loop-byte-preserved c = written_more c.args.self.now c.loop-byte.self c.push.new.self c.as_bytes-byte-items.result.now c.loop-byte.byte-index 0 c.loop-byte.invariant c.loop-byte-test.true c.in_ok-push.ensures
