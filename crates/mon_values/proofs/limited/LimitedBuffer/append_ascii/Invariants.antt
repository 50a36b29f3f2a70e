use Rattle.std.proofs.Common.{◌≡◌, take}
use Rattle.mon_values.specs.Limits.{written}
use Rattle.mon_values.proofs.limited.LimitedBuffer.append_ascii.Given as goal

abbrev pub invariant-loop-byte : goal.invariant-loop-byte
invariant-loop-byte l = l.self ≡ written l.fn.self (take l.byte-index l.byte-items)
