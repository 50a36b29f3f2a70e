use Rattle.std.proofs.Common.{arith}
use Rattle.mon_run.proofs.Moving.{under, counted, turn_holds, turn_world, turn_done, turn_others}
use Rattle.mon_run.proofs.Turning.{on_ok}
use Rattle.mon_run.proofs.moves.take_turn.Goals as goal

pub overflow_sub-left : goal.overflow_sub-left
overflow_sub-left c = let u = under c.args.program.now c.args.plan.now c.args.replay.now.control c.args.number c.args.replay.now.board.chair.me.0 c.args.replay.now.threads.items c.index_mut-thread.result.now c.args.replay.now.made.items c.requires.holds c.requires.low c.index_mut-thread.ensures.value in omega (arith, u, c.steps.ensures)

pub steps_alone-requires-clause-bound : goal.steps_alone-requires-clause-bound
steps_alone-requires-clause-bound c = let u = under c.args.program.now c.args.plan.now c.args.replay.now.control c.args.number c.args.replay.now.board.chair.me.0 c.args.replay.now.threads.items c.index_mut-thread.result.now c.args.replay.now.made.items c.requires.holds c.requires.low c.index_mut-thread.ensures.value in omega (arith, u, c.steps.ensures, c.min.ensures, c.requires.plan.steps)

pub steps_alone-requires-clause-count : goal.steps_alone-requires-clause-count
steps_alone-requires-clause-count c = counted c.args.program.now c.args.plan.now c.args.replay.now.control c.args.number c.args.replay.now.board.chair.me.0 c.args.replay.now.threads.items c.index_mut-thread.result.now c.args.replay.now.made.items c.requires.holds c.requires.low c.index_mut-thread.ensures.value

pub returns-clause-holds : goal.returns-clause-holds
returns-clause-holds c = on_ok _ _ _ (λ m. turn_holds c.args.program.now c.args.plan.now c.args.replay.now.control c.args.number c.args.replay.now.board.chair.me.0 c.args.replay.now.threads.items c.index_mut-thread.result.now c.args.replay.now.made.items c.requires.holds c.requires.low c.index_mut-thread.ensures.value
    c.min.result c.args.steps c.steps_alone.new.board.chair.me.0 c.steps_alone.new.thread c.requires.proper (omega (arith, c.min.ensures, c.steps.ensures)) m) c.steps_alone.ensures.took

pub returns-clause-world : goal.returns-clause-world
returns-clause-world c = on_ok _ _ _ (λ m. turn_world c.args.program.now c.args.plan.now c.args.replay.now.control c.args.number c.args.replay.now.board.chair.me.0 c.args.replay.now.threads.items c.index_mut-thread.result.now c.args.replay.now.made.items c.requires.holds c.requires.low c.index_mut-thread.ensures.value
    c.min.result c.args.steps c.steps_alone.new.board.chair.me.0 c.steps_alone.new.thread c.requires.proper (omega (arith, c.min.ensures, c.steps.ensures)) m) c.steps_alone.ensures.took

pub returns-clause-done : goal.returns-clause-done
returns-clause-done c = on_ok _ _ _ (λ m. turn_done c.args.program.now c.args.plan.now c.args.replay.now.control c.args.number c.args.replay.now.board.chair.me.0 c.args.replay.now.threads.items c.index_mut-thread.result.now c.args.replay.now.made.items c.requires.holds c.requires.low c.index_mut-thread.ensures.value
    c.min.result c.args.steps c.steps_alone.new.board.chair.me.0 c.steps_alone.new.thread c.requires.proper (omega (arith, c.min.ensures, c.steps.ensures)) m) c.steps_alone.ensures.took

pub returns-clause-others : goal.returns-clause-others
returns-clause-others c = on_ok _ _ _ (λ m. turn_others c.args.program.now c.args.plan.now c.args.replay.now.control c.args.number c.args.replay.now.board.chair.me.0 c.args.replay.now.threads.items c.index_mut-thread.result.now c.args.replay.now.made.items c.requires.holds c.requires.low c.index_mut-thread.ensures.value
    c.min.result c.args.steps c.steps_alone.new.board.chair.me.0 c.steps_alone.new.thread c.requires.proper (omega (arith, c.min.ensures, c.steps.ensures)) m) c.steps_alone.ensures.took
