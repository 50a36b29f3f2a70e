use Rattle.std.proofs.Common.{rules, arith, ap, ◌≡◌, ◌∙◌}
use Rattle.mon_gate.specs.Rule.{inside, numbered, alive, leads, asks}
use Rattle.mon_gate.specs.declared.view.Phase.TheVariants.{Attached}
use Rattle.mon_gate.proofs.Counts.{stores}
use Rattle.mon_gate.proofs.Doors.{drops}
use Rattle.mon_gate.proofs.gate.Seat.leave.Goals as goal

pub store-requires : goal.store-requires
store-requires c = (search rules, search rules, stores _ _ _ _ _ _ c.requires.attached (omega (arith, c.args.self.now.named)) c.requires.more)

pub fetch_sub-requires : goal.fetch_sub-requires
fetch_sub-requires c = let at : c.store.new.seat.me.0.phase ≡ Attached = ap (λ m. m.0.phase) c.store.ensures.2 ∙ c.requires.attached in
    (search rules, search rules, drops _ _ _ _ (ap inside at) (ap numbered at) (ap alive at) (ap leads at) (ap asks at))
