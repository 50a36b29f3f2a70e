use Rattle.mon_run.proofs.Holding.{called_world}
use Rattle.mon_run.proofs.Moving.{names_code, called_holds, one_call_more}
use Rattle.mon_run.proofs.Turning.{on_ok}
use Rattle.mon_run.proofs.moves.ask.Goals as goal

pub call_alone-requires-clause-code : goal.call_alone-requires-clause-code
call_alone-requires-clause-code c = names_code c.args.program.now c.args.replay.now.control.codes c.args.call.now c.requires.holds.codes_are c.requires.fits

pub returns-clause-holds : goal.returns-clause-holds
returns-clause-holds c = on_ok _ _ _ (λ m. called_holds c.args.program.now c.args.plan.now _ _ _ _ _ _ c.args.who c.args.call.now c.call_alone.ensures.threads c.call_alone.ensures.codes c.requires.holds m) c.call_alone.ensures.called

pub returns-clause-world : goal.returns-clause-world
returns-clause-world c = on_ok _ _ _ (λ m. called_world c.args.program.now c.args.plan.now _ _ _ _ _ c.args.replay.now.made.items c.args.who c.args.call.now c.requires.holds.keeps m) c.call_alone.ensures.called

pub returns-clause-calls : goal.returns-clause-calls
returns-clause-calls c = on_ok _ _ _ (λ m. one_call_more c.args.program.now c.args.who c.args.call.now _ _ _ _ m) c.call_alone.ensures.called
