use Rattle.std.proofs.Common.{rules, ap, ◌≡◌}
use Rattle.mon_gate.specs.Rule.{inside, numbered, alive, leads, asks}
use Rattle.mon_gate.specs.declared.view.Phase.TheVariants.{Retreating}
use Rattle.mon_gate.proofs.Doors.{enters, drops}
use Rattle.mon_gate.proofs.gate.Seat.try_enter.Goals as goal

pub fetch_add-found-requires : goal.fetch_add-found-requires
fetch_add-found-requires c = (search rules, search rules, enters _ _ _ _ c.requires.detached)

pub fetch_sub-requires : goal.fetch_sub-requires
fetch_sub-requires c = let t = c.fetch_add-found.ensures.2.2 c.if-found-lt-STOP.false in let at : c.fetch_add-found.new.seat.me.0.phase ≡ Retreating = ap (λ m. m.0.phase) t.2 in
    (search rules, search rules, drops _ _ _ _ (ap inside at) (ap numbered at) (ap alive at) (ap leads at) (ap asks at))
