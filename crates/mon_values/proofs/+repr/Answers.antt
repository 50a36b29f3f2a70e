use Rattle.std.proofs.Common.{◌≡◌, ap, arith, rules, refl, sym, Some, option_map, drop, map, ◌∙◌}
use Rattle.std.proofs.lemmas.List.{drop_all}
use Rattle.mon_values.specs.Limits.{written}
use Rattle.mon_values.specs.Printing.{printed, joined, arg_repr}
use Rattle.mon_values.proofs.Limits.{written_none}
use Rattle.mon_values.proofs.Prints.{generator_prints, iterator_prints, end_prints, tuple_written, arg_written, no_arg_written, exc_written}
use Rattle.mon_values.proofs.Writing.{items_more, items_last, stopped, ended}
use Rattle.mon_values.proofs.+repr.Goals.{print::write_items-then-i-items+in_ok-append_ascii, print::write_items-else-i-items, value::Exc::write_repr-in-Some+in_ok-write_repr, value::Exc::write_repr-in_default}
use Rattle.mon_values.proofs.+repr.Goals as goal

pub print::write_items-returns-then-is_full : goal.print::write_items-returns-then-is_full
print::write_items-returns-then-is_full t c =
    stopped c.loop-i.out c.args.out.now (joined (map (printed c.args.names.now) (drop c.loop-i.i c.args.items.now))) (joined (map (printed c.args.names.now) c.args.items.now)) c.loop-i.invariant (c.if-is_full.ensures.0 (search rules))

pub print::write_items-loop-i-preserved : goal.print::write_items-loop-i-preserved
print::write_items-loop-i-preserved t c =
    elim c.if-i-items.branch [
      | print::write_items-then-i-items+in_ok-append_ascii w ↦
          items_more (printed c.args.names.now) c.args.items.now c.loop-i.i c.index-items-i.result c.loop-i.out c.args.out.now c.write_repr.new.out c.if-i-items.out _ c.loop-i.invariant w.if-i-items.true c.index-items-i.is c.in_ok-write_repr.ensures (w.out-is ∙ w.in_ok-append_ascii.ensures)
      | print::write_items-else-i-items w ↦
          rw w.out-is (items_last (printed c.args.names.now) c.args.items.now c.loop-i.i c.index-items-i.result c.loop-i.out c.args.out.now c.write_repr.new.out _ c.loop-i.invariant c.loop-i-test.true w.if-i-items.false c.index-items-i.is c.in_ok-write_repr.ensures)
    ]

pub print::write_items-returns : goal.print::write_items-returns
print::write_items-returns t c =
    let past = drop_all c.loop-i.i c.args.items.now (omega arith) in
    ended c.loop-i.out c.args.out.now (joined (map (printed c.args.names.now) (drop c.loop-i.i c.args.items.now))) (joined (map (printed c.args.names.now) c.args.items.now)) c.loop-i.invariant (ap (λ vs. joined (map (printed c.args.names.now) vs)) past)

pub value::Exc::write_repr-returns : goal.value::Exc::write_repr-returns
value::Exc::write_repr-returns t c =
    let filled : c.match-self.out ≡ written c.append_ascii-2.new.self (arg_repr (option_map (printed c.args.names.now) c.args.self.now.arg)) =
    elim c.match-self.branch [
      | value::Exc::write_repr-in-Some+in_ok-write_repr w ↦ arg_written c.args.names.now c.args.self.now.arg w.get.result.now c.append_ascii-2.new.self c.match-self.out (w.in-Some.is ∙ ap Some (sym w.get.ensures)) (w.out-is ∙ w.in_ok-write_repr.ensures)
      | value::Exc::write_repr-in_default w ↦ no_arg_written c.args.names.now c.args.self.now.arg c.append_ascii-2.new.self c.match-self.out w.in_default.is w.out-is
    ]
    in
    exc_written c.append_ascii-3.result c.args.names.now c.args.self.now.class c.args.self.now.arg c.args.out.now c.append_ascii.new.self c.append_ascii-2.new.self c.match-self.out c.append_ascii-3.new.self
    (c.in_ok-append_ascii.ensures ∙ ap (written c.args.out.now) c.class_name.ensures) c.in_ok-append_ascii-2.ensures filled c.append_ascii-3.ensures

pub value::Value::write_repr-returns-in_ok-write_items-in-Tuple : goal.value::Value::write_repr-returns-in_ok-write_items-in-Tuple
value::Value::write_repr-returns-in_ok-write_items-in-Tuple t c =
    tuple_written c.write_tuple_end.result c.args.names.now c.in-Tuple.items c.as_slice.result.now c.len.result c.args.self.now c.args.out.now c.append_ascii-in-Tuple.new.self c.write_items.new.out c.write_tuple_end.new.out
    c.in-Tuple.is c.as_slice.ensures c.len.ensures c.in_ok-append_ascii-in-Tuple.ensures c.in_ok-write_items-in-Tuple.ensures c.write_tuple_end.ensures

pub value::Value::write_repr-returns-in-Gen : goal.value::Value::write_repr-returns-in-Gen
value::Value::write_repr-returns-in-Gen t c = rw (c.in-Gen.is, generator_prints) c.write_generator.ensures

pub value::Value::write_repr-returns-in-Iter : goal.value::Value::write_repr-returns-in-Iter
value::Value::write_repr-returns-in-Iter t c = rw (c.in-Iter.is, iterator_prints) c.write_iterator.ensures

pub value::Value::write_repr-returns-in-Done : goal.value::Value::write_repr-returns-in-Done
value::Value::write_repr-returns-in-Done t c = rw (c.in-Done.is, end_prints, written_none) refl
