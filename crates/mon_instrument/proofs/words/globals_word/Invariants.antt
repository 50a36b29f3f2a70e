use Rattle.std.proofs.Common.{◌≡◌, ◌%◌, ◌/◌}
use Rattle.mon_events.specs.Sets.{packed}
use Rattle.mon_history.specs.Stands.{global_event}
use Rattle.mon_history.specs.Kept.{config_of}
use Rattle.mon_instrument.proofs.words.globals_word.Given as goal

abbrev pub invariant-loop-place : goal.invariant-loop-place
invariant-loop-place l = l.word ≡ packed (λ k. (config_of l.config).wants (k % 6) (global_event (k / 6))) l.place
