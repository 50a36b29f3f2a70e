use Rattle.std.proofs.Common.{◌≡◌, take}
use Rattle.mon_recorders.specs.Rows as spec
use Rattle.mon_recorders.proofs.rows.count_threads.Given as goal

abbrev pub invariant-loop-thread : goal.invariant-loop-thread
invariant-loop-thread l = l.counted.entries ≡ spec.counted (spec.keys_over l.counting l.tool (take l.thread-index l.threads))
