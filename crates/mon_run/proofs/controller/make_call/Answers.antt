use Rattle.std.proofs.Common.{◌≡◌, Ok}
use Rattle.mon_control.specs.declared.ready.Prepared.{Prepared}
use Rattle.mon_run.proofs.Governing.{answered}
use Rattle.mon_run.proofs.controller.make_call.Goals as goal

pub returns-in-Ok-Answered-clause-governs : goal.returns-in-Ok-Answered-clause-governs
returns-in-Ok-Answered-clause-governs g c =
    let e : c.prepare.result ≡ Ok (Prepared.Answered c.in-Ok-Answered.field-0-0) = cc (c.in-Ok-Answered.is, c.in-Ok-Answered.field-0-is) in
    answered c.args.program.now c.args.control.now c.prepare.new.self c.args.idle.chair.me.0 c.args.who c.args.call.now c.requires.governs
    c.prepare.ensures.threads c.prepare.ensures.codes c.prepare.ensures.lawful (c.prepare.ensures.answered c.in-Ok-Answered.field-0-0 e).2
