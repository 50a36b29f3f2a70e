-- The worked deliveries.
use Rattle.std.proofs.Common.{refl}
use Rattle.mon_recorders.specs.Happenings.{for_tools}
use Rattle.mon_recorders.specs.Examples.{HeardInTurn, DisabledInTurn, MarkedInTurn}

pub heard : HeardInTurn
unfolding for_tools
heard = refl

pub disabled : DisabledInTurn
unfolding for_tools
disabled = refl

pub marked : MarkedInTurn
unfolding for_tools
marked = refl
