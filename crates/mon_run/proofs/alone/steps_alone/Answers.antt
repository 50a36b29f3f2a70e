use Rattle.std.proofs.Common.{rules, ◌∙◌, ap, subst}
use Rattle.mon_board.specs.declared.plain_rest.PlainRest.{PlainRest}
use Rattle.mon_board.specs.declared.plain_view.PlainView.{PlainView}
use Rattle.mon_run.specs.Replaying.{Took}
use Rattle.mon_run.proofs.Calling.{took}
use Rattle.mon_run.proofs.alone.steps_alone.Goals as goal

pub returns : goal.returns
returns c =
    let a = c.try_enter.new.self in let b = c.advance.new.handle in let d = c.leave.new.self in
    let rest = c.leave.ensures.rest ∙ c.advance.ensures.rest in
    record {
      took = subst (λ (z : PlainView). Took c.args.program.now c.args.number c.args.steps c.args.board.now.chair.me.0 z c.args.thread.now.progress c.advance.new.self.progress) (search rules)
          (took c.args.program.now c.args.number c.args.steps c.steps.result c.args.board.now.chair.me.0 a.board.now.chair.me.0 b.board.now.chair.me.0 d.board.now.chair.me.0 a.thread b.thread d.thread a.board.now.chair.me.0.tally c.args.thread.now.progress c.advance.new.self.progress
          (search rules) (search rules) c.in_ok-advance.ensures.run b.board.now.unasked c.advance.ensures.stays c.leave.ensures.told.rest c.steps.ensures
          (ap (λ (z : PlainRest). z.counts) rest) (ap (λ (z : PlainRest). z.marks) rest)
          d.running (search rules) (search rules) c.requires.within);
    }
