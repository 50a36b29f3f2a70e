use Rattle.std.proofs.Common.{◌≡◌, ap, subst, sym}
use Rattle.mon_board.specs.Views.{told_of}
use Rattle.mon_gate.specs.declared.view.View.{View}
use Rattle.mon_run.specs.Rounds.{Left}
use Rattle.mon_run.proofs.Leaving.{round}
use Rattle.mon_run.proofs.worker.round.Goals as goal

pub returns-in-Ok-clause-left : goal.returns-in-Ok-clause-left
returns-in-Ok-clause-left g c s l =
    let v : View = c.args.seat.chair.me.0 in let w : View = c.enter.new.seat.chair.me.0 in
    let h : View = c.new-handle.result.seat.chair.me.0 in let b : View = c.advance-answer.new.handle.seat.chair.me.0 in let d : View = c.leave.new.self.seat.chair.me.0 in
    let here : h ≡ w = ap (λ z. z.chair.me.0) c.new-handle.ensures.0 in
    let there : d ≡ c.into_seat-seat.result.chair.me.0 = sym (ap (λ z. z.chair.me.0) c.into_seat-seat.ensures.seat) in
    subst (λ (z : View). Left c.args.program.now s (told_of z) c.advance-answer.new.self.progress) there
    (round c.args.program.now s c.args.steps c.steps.result v h (told_of b) (told_of d) c.args.thread.now.progress c.advance-answer.new.self.progress l
    (subst (λ (z : View). Rattle.mon_gate.specs.Plays.Goes v z.seen) (sym here) c.enter.ensures.seen)
    (subst (λ (z : View). z ≡ record v { phase = Rattle.mon_gate.specs.declared.view.Phase.TheVariants.Attached; seen = z.seen; found = z.found; tally = record v.tally { entries = z.tally.entries } }) (sym here) c.enter.ensures.view)
    c.in-Ok.ensures.run c.advance-answer.ensures.stays c.leave.ensures.told.rest c.steps.ensures)
