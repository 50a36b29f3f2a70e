use Rattle.std.proofs.Common.{◌≡◌, ◌%◌, ◌/◌}
use Rattle.mon_events.specs.Sets.{packed}
use Rattle.mon_events.specs.Events.{event_at}
use Rattle.mon_history.specs.Kept.{config_of}
use Rattle.mon_history.specs.Stands.{policy_bit}
use Rattle.mon_instrument.proofs.words.callback_word.Given as goal

abbrev pub invariant-loop-place : goal.invariant-loop-place
invariant-loop-place l = l.word ≡ packed (λ k. policy_bit ((config_of l.config).calls l.tool (event_at (k / 2))) (k % 2)) l.place
