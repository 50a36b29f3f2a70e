use Rattle.std.proofs.Common.{◌≡◌, ◌<◌, ℕ, take}
use Rattle.mon_words.specs.Words.{is_bit}
use Rattle.mon_hear.specs.Words as spec
use Rattle.mon_hear.proofs.words.asking_tools.Given as goal

abbrev pub invariant-loop-event : goal.invariant-loop-event
invariant-loop-event l = (t : ℕ) → t < 6 → is_bit l.tools t ≡ spec.any_enabled l.word l.global t (take l.event-index l.events)
