use Rattle.std.proofs.Common.{rules, ◌∙◌, ap, sym}
use Rattle.mon_board.specs.declared.plain.PlainBoard.{PlainBoard}
use Rattle.mon_board.specs.declared.plain_rest.PlainHaltedRest.{PlainHaltedRest}
use Rattle.mon_run.proofs.Calling.{committed}
use Rattle.mon_run.proofs.alone.commit_alone.Goals as goal

pub returns-clause-called : goal.returns-clause-called
returns-clause-called c =
    let b : PlainBoard = c.args.board.now in
    committed c.args.program.now c.args.control.now c.commit.new.self b.chair.me.0 c.halted-halted.result.board.now.chair.me.0 c.commit.new.s.board.now.chair.me.0 _ c.args.ready.who c.args.ready.call
    (ap (λ (z : PlainBoard). z.chair.me.0) c.halted-halted.ensures.value) c.requires.count (b.counts_are ∙ sym b.threads_are) c.requires.stops c.commit.ensures.threads c.commit.ensures.lawful c.commit.ensures.commits (ap (λ (z : PlainHaltedRest). z.counts) c.commit.ensures.rest)
    c.commit.new.s.counted (search rules)
