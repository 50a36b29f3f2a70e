use Rattle.std.proofs.Common.{◌≡◌, Ok}
use Rattle.mon_control.specs.declared.ready.Prepared.{Prepared}
use Rattle.mon_run.proofs.Calling.{called_quiet}
use Rattle.mon_run.proofs.alone.call_alone.Goals as goal

pub returns-in-Ok-Answered-clause-called : goal.returns-in-Ok-Answered-clause-called
returns-in-Ok-Answered-clause-called c =
    let e : c.prepare.result ≡ Ok (Prepared.Answered c.in-Ok-Answered.field-0-0) = cc (c.in-Ok-Answered.is, c.in-Ok-Answered.field-0-is) in
    let made = c.prepare.ensures.answered c.in-Ok-Answered.field-0-0 e in
    called_quiet c.args.program.now c.args.control.now c.prepare.new.self c.args.board.now.chair.me.0 c.args.who c.args.call.now
    c.requires.count c.requires.running c.requires.stands c.prepare.ensures.threads c.prepare.ensures.lawful made.1 made.2
