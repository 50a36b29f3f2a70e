use Rattle.std.proofs.Common.{sym, ap, subst, List}
use Rattle.mon_words.proofs.Histories.{begins_all, still-whole}
use Rattle.mon_gate.specs.Plays.{Goes}
use Rattle.mon_gate.specs.declared.view.View.{View}
use Rattle.mon_words.specs.declared.history.Mark.{Mark}
use Rattle.mon_gate.proofs.wait.look_and_enter.Goals as goal

pub returns-then-sees_stop-clause-seen : goal.returns-then-sees_stop-clause-seen
returns-then-sees_stop-clause-seen c = let v : View = c.args.seat.now.chair.me.0 in
    let here : Goes v v.seen = record { begins = begins_all v.seen; own = c.args.seat.now.own; still = still-whole v.number v.stored v.seen } in
    subst (λ (z : List Mark). Goes v z) (sym (ap (λ (w : View). w.seen) c.sees_stop.ensures.view)) here
