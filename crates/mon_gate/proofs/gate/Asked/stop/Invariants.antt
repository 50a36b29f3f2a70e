use Rattle.std.proofs.Common.{◌≡◌, ◌≤◌}
use Rattle.mon_gate.proofs.gate.Asked.stop.Given as goal

abbrev pub invariant-loop : goal.invariant-loop
invariant-loop g l = record {
  next : (goal.iterator-loop g).can_next l.iterator';
  finite : (goal.iterator-loop g).is_finite l.iterator';
  table : l.asked.chair.table_id ≡ l.fn.self.chair.table_id;
  looks : l.fn.self.chair.me.0.tally.observes ≤ l.asked.chair.me.0.tally.observes;
  view : l.asked.chair.me.0 ≡ record l.fn.self.chair.me.0 { found = l.asked.chair.me.0.found; tally = record l.fn.self.chair.me.0.tally { observes = l.asked.chair.me.0.tally.observes } };
}
