use Rattle.std.proofs.Common.{◌≡◌, take}
use Rattle.std.specs.List.{fold}
use Rattle.mon_recorders.specs.Rows as spec
use Rattle.mon_recorders.proofs.rows.count_records.Given as goal

abbrev pub invariant-loop-index : goal.invariant-loop-index
invariant-loop-index l = l.counted.entries ≡ fold spec.count_one l.initial.counted.entries (spec.keys_in l.counting l.tool (take l.index l.records))
