use Rattle.mon_instrument.proofs.Firsts.{first_stands}
use Rattle.mon_instrument.proofs.laws.first_words_stand.Goals as goal

pub returns : goal.returns
returns c = first_stands
