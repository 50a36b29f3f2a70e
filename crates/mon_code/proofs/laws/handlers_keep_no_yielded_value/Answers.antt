use Rattle.mon_code.proofs.Waiting.{keeps_no_yielded_value}
use Rattle.mon_code.proofs.laws.handlers_keep_no_yielded_value.Goals as goal

pub returns : goal.returns
returns c = keeps_no_yielded_value
