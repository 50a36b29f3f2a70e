use Rattle.std.proofs.Common.{◌≡◌, ◌≤◌, length}
use Rattle.mon_words.specs.History.{Begins, Still}
use Rattle.mon_gate.specs.declared.view.Phase.TheVariants.{Out}
use Rattle.mon_gate.proofs.wait.enter.Given as goal

abbrev pub invariant-loop : goal.invariant-loop
invariant-loop g l = record {
  next : (goal.iterator-loop g).can_next l.iterator';
  finite : (goal.iterator-loop g).is_finite l.iterator';
  table : l.seat.chair.table_id ≡ l.initial.seat.chair.table_id;
  number : l.seat.number ≡ l.initial.seat.number;
  begins : Begins l.initial.seat.chair.me.0.seen l.seat.chair.me.0.seen;
  still : Still (length l.initial.seat.chair.me.0.seen) l.initial.seat.chair.me.0.number l.initial.seat.chair.me.0.stored l.seat.chair.me.0.seen;
  tries : l.initial.seat.chair.me.0.tally.entries ≤ l.seat.chair.me.0.tally.entries;
  view : l.seat.chair.me.0 ≡ record l.initial.seat.chair.me.0 { phase = Out; seen = l.seat.chair.me.0.seen; found = l.seat.chair.me.0.found; tally = record l.initial.seat.chair.me.0.tally { entries = l.seat.chair.me.0.tally.entries } };
}
