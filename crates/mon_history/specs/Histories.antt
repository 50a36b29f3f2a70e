-- Histories of changes and disables.
use Rattle.std.specs.Prelude.{◌≡◌, ℕ, suc, List, [], ◌∷◌, slice_get, Option, Some, None}
use Rattle.mon_events.specs.Sets.{slot_of, tool_of}
use Rattle.mon_words.specs.declared.history.Mark.{Mark}
use Rattle.mon_words.specs.declared.history.Mark.TheVariants.{Off, Put}
use Rattle.mon_history.specs.declared.journal.Entry.{Entry}
use Rattle.mon_history.specs.declared.journal.JournalLine.{JournalLine}
use Rattle.mon_history.specs.Configuration.{Configuration, nothing, switched_off}
use Rattle.mon_history.specs.Registry.{change}
use Rattle.mon_history.specs.Journal.{stopping, counts_of}

-- the changes that these calls make, numbered from n on
abbrev pub numbered : ℕ → List JournalLine → List Entry
numbered n [] = []
numbered n (line ∷ lines) = Entry.Change n (counts_of line.stops) ∷ numbered (suc n) lines

abbrev pub changes : List Entry → List Entry
changes [] = []
changes (Entry.Change n counts ∷ H) = Entry.Change n counts ∷ changes H
changes (Entry.Disable t l s u ∷ H) = changes H

-- the changes of H are those of J's stopping calls, in order, with their counts
abbrev pub IsHistory : List JournalLine → List Entry → Type 0
IsHistory J H = changes H ≡ numbered 0 (stopping J)

-- a change of that call, which was accepted
abbrev pub changed : Option JournalLine → Configuration → Configuration
changed (Some line) C = change line.call C
changed None C = C

abbrev pub after_one : List JournalLine → Configuration → Entry → Configuration
after_one J C (Entry.Change n counts) = changed (slice_get (stopping J) n) C
after_one J C (Entry.Disable t l s u) = switched_off C l s u

abbrev pub after_from : List JournalLine → Configuration → List Entry → Configuration
after_from J C [] = C
after_from J C (entry ∷ H) = after_from J (after_one J C entry) H

abbrev pub config_after : List JournalLine → List Entry → Configuration
config_after J H = after_from J nothing H

-- a word history as a history: each disable, and each board as a change, numbered from n on
abbrev pub entries : ℕ → List Mark → List Entry
entries n [] = []
entries n (Off t l k ∷ ms) = Entry.Disable t l (slot_of k) (tool_of k) ∷ entries n ms
entries n (Put counts board ∷ ms) = Entry.Change n counts ∷ entries (suc n) ms
