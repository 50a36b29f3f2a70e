use Rattle.mon_events.proofs.Bits.{place_slot, place_tool, place_back}
use Rattle.mon_events.proofs.laws.places_back.Goals as goal

pub returns : goal.returns
returns c = record { slot = place_slot; tool = place_tool; place = place_back }
