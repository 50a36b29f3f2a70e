use Rattle.mon_events.proofs.Listed.{set_bit, set_lt}
use Rattle.mon_events.proofs.laws.sets_by_bits.Goals as goal

pub returns : goal.returns
returns c = record { known = set_bit; none_else = set_lt }
