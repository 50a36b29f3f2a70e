use Rattle.std.proofs.Common.{List, ◌++◌, map, sym, ap, ◌∙◌, subst}
use Rattle.mon_words.specs.Words.{is_bit}
use Rattle.mon_recorders.specs.Happenings.{for_tools, record_of}
use Rattle.mon_recorders.specs.declared.records.Entry.{Entry}
use Rattle.mon_recorders.specs.declared.records.Values.{Values}
use Rattle.mon_recorders.specs.Kept as spec
use Rattle.mon_recorders.proofs.Keeping.{none_pushed, still_kept, entries_kept, records_pushed}
use Rattle.mon_recorders.proofs.records.Records.push_for_tools.Goals as goal

pub returns-then-tools-eq0-clause-ok : goal.returns-then-tools-eq0-clause-ok
returns-then-tools-eq0-clause-ok c = none_pushed c.args.self.now c.args.tools (record_of c.args.step c.args.event.now) c.if-tools-eq0.true

pub invariant_of-self-2 : goal.invariant_of-self-2
invariant_of-self-2 c =
    let vs : List Values = c.self.inside.values.items in let ws : List Values = c.keep.new.values.items in
    let entry : Entry = record { step = c.args.step; at = c.args.event.now.at; dest = c.args.event.now.dest; values = c.in_ok-values.values; code = c.args.event.now.code; tool = 0; event = c.args.event.now.event } in
    let kept = still_kept vs ws c.self.inside.entries.items c.in_ok-values.ensures.ok c.self.invariant in
    subst (λ (es : List Entry). spec.AreKept ws es) (sym c.push_entries.ensures)
    (entries_kept ws c.reserve.new.self.items entry (is_bit c.args.tools) (subst (λ (es : List Entry). spec.AreKept ws es) (sym c.reserve.ensures.items) kept) c.in_ok-values.ensures.place.within)

pub returns-clause-ok : goal.returns-clause-ok
returns-clause-ok c =
    let vs : List Values = c.self.inside.values.items in let ws : List Values = c.keep.new.values.items in
    let entry : Entry = record { step = c.args.step; at = c.args.event.now.at; dest = c.args.event.now.dest; values = c.in_ok-values.values; code = c.args.event.now.code; tool = 0; event = c.args.event.now.event } in
    ap (λ (es : List Entry). map (spec.kept ws) es) c.push_entries.ensures
    ∙ (ap (λ (es : List Entry). map (spec.kept ws) (es ++ for_tools (is_bit c.args.tools) (spec.for_tool entry) 6)) c.reserve.ensures.items
    ∙ (records_pushed vs ws c.self.inside.entries.items c.args.step c.in_ok-values.values c.args.event.now (is_bit c.args.tools) c.in_ok-values.ensures.ok c.self.invariant c.in_ok-values.ensures.place
    ∙ ap (λ z. z ++ for_tools (is_bit c.args.tools) (record_of c.args.step c.args.event.now) 6) c.self.view_is))
