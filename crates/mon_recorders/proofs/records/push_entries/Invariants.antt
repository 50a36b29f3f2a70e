use Rattle.std.proofs.Common.{◌≡◌, ◌+◌, ◌-◌, ◌≤◌, ◌++◌}
use Rattle.std.specs.Vec.{vec_len, vec_capacity}
use Rattle.mon_words.specs.Words.{is_bit}
use Rattle.mon_recorders.specs.Happenings.{for_tools}
use Rattle.mon_recorders.specs.Kept as spec
use Rattle.mon_recorders.proofs.records.push_entries.Given as goal

abbrev pub invariant-loop-tool : goal.invariant-loop-tool
invariant-loop-tool l = record {
  items : l.entries.items ≡ l.initial.entries.items ++ for_tools (is_bit l.tools) (spec.for_tool l.entry) l.tool;
  room : vec_len l.entries + (6 - l.tool) ≤ vec_capacity l.entries;
}
