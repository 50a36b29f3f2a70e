use Rattle.mon_events.proofs.Bits.{packed_bit, packed_lt}
use Rattle.mon_events.proofs.laws.words_by_bits.Goals as goal

pub returns : goal.returns
returns c = record { given = packed_bit; none_else = packed_lt }
