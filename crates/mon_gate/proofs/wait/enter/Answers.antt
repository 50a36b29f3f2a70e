use Rattle.std.proofs.Common.{rules, ap, refl}
use Rattle.mon_words.proofs.Histories.{begins_all, still-whole}
use Rattle.mon_gate.specs.Plays.{Goes}
use Rattle.mon_gate.specs.declared.view.View.{View}
use Rattle.mon_gate.proofs.Trying.{goes_on}
use Rattle.mon_gate.proofs.wait.enter.Goals as goal

pub loop-init : goal.loop-init
loop-init g c = let v : View = c.args.seat.now.chair.me.0 in record {
  next = search rules;
  finite = search rules;
  table = refl;
  number = refl;
  begins = begins_all v.seen;
  still = still-whole v.number v.stored v.seen;
  tries = search rules;
  view = search rules;
}

pub loop-preserved : goal.loop-preserved
loop-preserved g c = let u : View = c.args.seat.now.chair.me.0 in let v : View = c.loop.seat.chair.me.0 in let w : View = c.look_and_enter.new.seat.chair.me.0 in let i = c.loop.invariant in
    let on : Goes u w.seen = goes_on u v w.seen (ap (λ (z : View). z.number) i.view) (ap (λ (z : View). z.stored) i.view) (ap (λ (z : View). z.mine) i.view) i.begins i.still c.look_and_enter.ensures.seen in
    record {
      next = search rules;
      finite = search rules;
      table = search rules;
      number = search rules;
      begins = on.begins;
      still = on.still;
      tries = search rules;
      view = search rules;
    }

pub returns-then-look_and_enter-clause-seen : goal.returns-then-look_and_enter-clause-seen
returns-then-look_and_enter-clause-seen g c = let u : View = c.args.seat.now.chair.me.0 in let v : View = c.loop.seat.chair.me.0 in let w : View = c.look_and_enter.new.seat.chair.me.0 in let i = c.loop.invariant in
    goes_on u v w.seen (ap (λ (z : View). z.number) i.view) (ap (λ (z : View). z.stored) i.view) (ap (λ (z : View). z.mine) i.view) i.begins i.still c.look_and_enter.ensures.seen
