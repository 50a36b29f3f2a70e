use Rattle.mon_main.proofs.Agreeing.{statuses_agree}
use Rattle.mon_main.proofs.laws.statuses_agree.Goals as goal

pub returns : goal.returns
returns c = statuses_agree
