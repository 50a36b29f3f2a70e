use Rattle.std.proofs.Common.{◌≡◌, ◌++◌, drop, string_bytes}
use Rattle.mon_events.specs.Events.{all_events}
use Rattle.mon_forms.specs.Reports.{joined, names_in}
use Rattle.mon_forms.proofs.Joins.{names_of, joined_behind}
use Rattle.mon_forms.proofs.sets.write_names.Given as goal

abbrev pub invariant-loop-event : goal.invariant-loop-event
invariant-loop-event l = string_bytes l.out ++ joined_behind l.is_first (names_of l.set.0 (drop l.event-index all_events)) ≡ string_bytes l.initial.out ++ joined (names_in l.set.0)
