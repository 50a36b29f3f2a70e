use Rattle.std.proofs.Common.{◌≡◌}
use Rattle.mon_events.specs.Sets.{packed, slot_of, tool_of}
use Rattle.mon_history.specs.Kept.{config_of}
use Rattle.mon_history.specs.Stands.{wants_bit}
use Rattle.mon_instrument.proofs.wanting.want_bits.Given as goal

abbrev pub invariant-loop-place : goal.invariant-loop-place
invariant-loop-place l = l.word ≡ packed (λ k. wants_bit (config_of l.config) l.site (slot_of k) (tool_of k)) l.place
