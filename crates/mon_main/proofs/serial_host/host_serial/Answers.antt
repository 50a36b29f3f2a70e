use Rattle.std.proofs.Common.{◌∙◌, inl}
use Rattle.mon_main.proofs.Agreeing.{statuses_agree}
use Rattle.mon_main.proofs.serial_host.host_serial.Goals as goal

pub returns-in-Ok-write_all-clause-complete : goal.returns-in-Ok-write_all-clause-complete
returns-in-Ok-write_all-clause-complete g c = λ reading plan tells store sink status text answers.
    inl (c.status.ensures ∙ statuses_agree _ reading plan _ status _ text (c.in-Ok.ensures.due reading plan tells) answers)
