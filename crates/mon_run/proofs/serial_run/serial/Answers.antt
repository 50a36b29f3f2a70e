use Rattle.mon_run.proofs.Lawfully.{in_row, is_serial, legal}
use Rattle.mon_run.proofs.serial_run.serial.Goals as goal

pub returns-clause-report : goal.returns-clause-report
returns-clause-report c =
    let b = c.in_ok-replay.ensures in
    is_serial c.args.program.now c.args.plan.now c.finish_threads.new.replay.board.chair.me.0 _ _ _ _
    (in_row c.args.program.now c.args.plan.now.workload c.args.plan.now.schedule c.in_ok-replay.replay.board.chair.me.0 _ _ _ _ _ _ _ b.seen b.journal b.threads b.made
    c.in_ok-ask_first.ensures.world c.in_ok-follow_schedule.ensures.world c.in_ok-finish_scripts.ensures.world c.in_ok-finish_threads.ensures.world)
    c.into_journal.ensures.lines c.in_ok-threads.ensures

pub returns-clause-legal : goal.returns-clause-legal
returns-clause-legal c =
    let b = c.in_ok-replay.ensures in
    legal c.args.program.now c.args.plan.now.workload c.args.plan.now.schedule _ c.finish_threads.new.replay.board.chair.me.0 _ _ _ b.proper c.in_ok-finish_threads.ensures.holds c.in_ok-finish_threads.ensures.done
    (in_row c.args.program.now c.args.plan.now.workload c.args.plan.now.schedule c.in_ok-replay.replay.board.chair.me.0 _ _ _ _ _ _ _ b.seen b.journal b.threads b.made
    c.in_ok-ask_first.ensures.world c.in_ok-follow_schedule.ensures.world c.in_ok-finish_scripts.ensures.world c.in_ok-finish_threads.ensures.world)
    c.into_journal.ensures.lines c.in_ok-threads.ensures
