use Rattle.mon_history.proofs.Listening.{lets_through}
use Rattle.mon_history.proofs.laws.let_through.Goals as goal

pub returns : goal.returns
returns c = lets_through
