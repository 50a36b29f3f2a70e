use Rattle.std.proofs.Common.{rules, ap}
use Rattle.mon_board.specs.declared.plain.PlainBoard.{PlainBoard}
use Rattle.mon_control_tests.proofs.Standing.{committed}
use Rattle.mon_control_tests.proofs.tests.world.commit.Goals as goal

pub returns : goal.returns
returns c =
    committed c.args.program.now c.args.control.now c.commit_on-made.new.control c.args.board.now.chair.me.0 c.halted-halted.result.board.now.chair.me.0 c.commit_on-made.new.halted.board.now.chair.me.0 _ c.args.ready.who c.args.ready.call c.requires.ready
    (ap (λ (z : PlainBoard). z.chair.me.0) c.halted-halted.ensures.value) c.commit_on-made.ensures.threads c.commit_on-made.ensures.codes c.commit_on-made.ensures.commits (search rules)
