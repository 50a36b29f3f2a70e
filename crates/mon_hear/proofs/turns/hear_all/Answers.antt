use Rattle.std.proofs.Common.{◌+◌, ℕ, List, refl, sym, ◌∙◌, subst, arith}
use Rattle.mon_recorders.specs.declared.happening.Happening.{Happening}
use Rattle.mon_recorders.specs.Boards.{AreAt}
use Rattle.mon_hear.specs.Hearing.{StepHeard}
use Rattle.mon_hear.proofs.Turning.{none_heard, one_heard, turn_fits}
use Rattle.mon_hear.proofs.turns.hear_all.Goals as goal

pub loop-turn-init : goal.loop-turn-init
loop-turn-init g c = record {
  heard = none_heard c.args.turns.now c.args.first (g.H.Handle.told c.args.handle.now) c.args.records.now c.args.disables.now;
  rest = refl;
  step = omega arith;
}

pub hear_step-requires-clause-owns : goal.hear_step-requires-clause-owns
hear_step-requires-clause-owns g c = let h = c.loop-turn.invariant.heard in h.grows.owns c.requires.owns

pub hear_step-requires-clause-within : goal.hear_step-requires-clause-within
hear_step-requires-clause-within g c = let h = c.loop-turn.invariant.heard in
    (turn_fits (g.H.Handle.told c.args.handle.now) (g.H.Handle.told c.loop-turn.handle) c.args.turns.now c.loop-turn.turn-index c.turn-item.result h.marks h.grows c.requires.turns c.loop-turn-test.true c.turn-item.is).0

pub hear_step-requires-clause-here : goal.hear_step-requires-clause-here
hear_step-requires-clause-here g c = let h = c.loop-turn.invariant.heard in
    subst (λ (es : List Happening). AreAt c.turn-item.result.location es) (sym c.as_slice.ensures)
    (turn_fits (g.H.Handle.told c.args.handle.now) (g.H.Handle.told c.loop-turn.handle) c.args.turns.now c.loop-turn.turn-index c.turn-item.result h.marks h.grows c.requires.turns c.loop-turn-test.true c.turn-item.is).1

pub loop-turn-preserved : goal.loop-turn-preserved
loop-turn-preserved g c = let i = c.loop-turn.invariant in let o = c.in_ok-hear_step.ensures in
    let s : StepHeard (c.args.first + c.loop-turn.turn-index) c.turn-item.result.location c.turn-item.result.events (g.H.Handle.told c.loop-turn.handle) (g.H.Handle.told c.hear_step.new.handle)
    c.loop-turn.records c.hear_step.new.records c.loop-turn.disables c.hear_step.new.disables =
    subst (λ (z : ℕ × List Happening). StepHeard z.0 c.turn-item.result.location z.1 (g.H.Handle.told c.loop-turn.handle) (g.H.Handle.told c.hear_step.new.handle) c.loop-turn.records c.hear_step.new.records c.loop-turn.disables c.hear_step.new.disables)
    (λ j. (i.step j, c.as_slice.ensures j)) o.heard in
    record {
      heard = one_heard c.args.turns.now c.loop-turn.turn-index c.args.first c.turn-item.result (g.H.Handle.told c.args.handle.now) (g.H.Handle.told c.loop-turn.handle) (g.H.Handle.told c.hear_step.new.handle)
          c.args.records.now c.loop-turn.records c.hear_step.new.records c.args.disables.now c.loop-turn.disables c.hear_step.new.disables o.stays.0 c.requires.turns c.loop-turn-test.true c.turn-item.is i.heard o.stays.1 s;
      rest = o.rest ∙ i.rest;
      step = omega (arith, i.step);
    }
