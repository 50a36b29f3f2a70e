-- The worked loop.
use Rattle.std.proofs.Common.{refl}
use Rattle.mon_recorders.specs.Happenings.{for_tools}
use Rattle.mon_hear.specs.Loops.{HeardOnce, DisabledOnce, HeardAgain, DisabledAgain}

pub heard : HeardOnce
unfolding for_tools
heard = refl

pub disabled : DisabledOnce
unfolding for_tools
disabled = refl

pub heard_again : HeardAgain
unfolding for_tools
heard_again = refl

pub disabled_again : DisabledAgain
unfolding for_tools
disabled_again = refl
