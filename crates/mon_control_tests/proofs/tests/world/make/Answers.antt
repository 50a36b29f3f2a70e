use Rattle.std.proofs.Common.{◌≡◌, Ok}
use Rattle.mon_control.specs.declared.ready.Prepared.{Prepared}
use Rattle.mon_control_tests.proofs.Standing.{answered}
use Rattle.mon_control_tests.proofs.tests.world.make.Goals as goal

pub returns-in-Ok-Answered : goal.returns-in-Ok-Answered
returns-in-Ok-Answered c =
    let e : c.prepare.result ≡ Ok (Prepared.Answered c.in-Ok-Answered.reply) = cc (c.in-Ok-Answered.is, c.in-Ok-Answered.field-0-is) in
    answered c.args.program.now c.args.control.now c.prepare.new.self c.args.board.now.chair.me.0 _ _ c.requires c.prepare.ensures.threads c.prepare.ensures.codes (c.prepare.ensures.answered c.in-Ok-Answered.reply e).2
