use Rattle.mon_hear.proofs.Bits.{six_bits}
use Rattle.mon_hear.proofs.words.six_bits.Goals as goal

pub returns : goal.returns
returns c = λ t l. six_bits c.args.word c.args.from t l
