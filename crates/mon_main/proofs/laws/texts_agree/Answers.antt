use Rattle.mon_main.proofs.Agreeing.{texts_agree}
use Rattle.mon_main.proofs.laws.texts_agree.Goals as goal

pub returns : goal.returns
returns c = texts_agree
