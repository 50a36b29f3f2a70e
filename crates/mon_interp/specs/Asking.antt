-- Events that are listed where some tool asks for them.
use Rattle.std.specs.Prelude.{◌≡◌, ℕ, nat_lt, Bool, List, ◌++◌}
use Rattle.mon_events.specs.Events.{slot_number}
use Rattle.mon_events.specs.declared.event.Slot.{Slot}
use Rattle.mon_words.specs.Words.{cell_of, enabled_in}
use Rattle.mon_recorders.specs.declared.happening.Happening.{Happening}
use Rattle.mon_hear.specs.Words.{IsAskedPart}

-- a word enables the event of a slot for some tool
abbrev pub asks_for : ℕ → Slot → Bool
asks_for word slot = nat_lt 0 (enabled_in (cell_of word) (slot_number slot))

-- of these events those were added to a list that the words ask for; of the others some may have been left out
pub record Adds (word global : ℕ) (old new es : List Happening) : Type 0 where
  pub added : List Happening
  pub is : new ≡ old ++ added
  pub part : IsAskedPart word global added es
