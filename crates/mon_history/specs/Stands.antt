-- When shared words stand for a configuration, and a word history for a journal.
use Rattle.std.specs.Prelude.{◌≡◌, ℕ, suc, ◌<◌, ◌*◌, ◌/◌, ◌%◌, ◌==◌, Bool, true, false, not, List, [], ◌∷◌, length, take, map, slice_get, slice_index, Option, Some, None, if◌then◌else◌}
use Rattle.mon_events.specs.Events.{place}
use Rattle.mon_events.specs.declared.event.Event.{Event}
use Rattle.mon_events.specs.declared.event.Slot.{Slot}
use Rattle.mon_words.specs.Words.{is_bit}
use Rattle.mon_words.specs.History.{cell_at}
use Rattle.mon_words.specs.declared.history.Board.{Board}
use Rattle.mon_words.specs.declared.history.Mark.{Mark}
use Rattle.mon_words.specs.declared.history.Mark.TheVariants.{Off, Put}
use Rattle.mon_history.specs.declared.calls.Policy.{Policy}
use Rattle.mon_history.specs.declared.journal.JournalLine.{JournalLine}
use Rattle.mon_events.specs.Sets.{packed}
use Rattle.mon_events.specs.Events.{event_at, events}
use Rattle.mon_code.specs.declared.site.Site.{Site}
use Rattle.mon_code.specs.Sites.{site_at, slot_event}
use Rattle.mon_history.specs.Configuration.{Configuration, nothing, wanted}
use Rattle.mon_history.specs.Journal.{stopping}
use Rattle.mon_history.specs.Histories.{config_after, entries}

-- the five events that are global alone, in the order of the global word
abbrev pub global_event : ℕ → Event
global_event e =
    if e == 0 then Event.Raise else
    if e == 1 then Event.Reraise else
    if e == 2 then Event.ExceptionHandled else
    if e == 3 then Event.PyUnwind else
    Event.PyThrow

abbrev pub wanted_one : Configuration → ℕ → ℕ → Option Event → Bool
wanted_one C t code (Some e) = wanted C t code e
wanted_one C t code None = false

-- a want bit: the slot has an event there, and that event is wanted
abbrev pub wants_bit : Configuration → Site → Slot → ℕ → Bool
wants_bit C site s t = wanted_one C t site.code (slot_event site s)

-- bit 6e + t of the global word: tool t wants the global event e everywhere
abbrev pub globals : Configuration → ℕ
globals C = packed (λ k. C.wants (k % 6) (global_event (k / 6))) 30

abbrev pub policy_bit : Policy → ℕ → Bool
policy_bit Policy.Keep j = j == 0
policy_bit Policy.Once j = j == 1
policy_bit Policy.Nothing j = false

-- two bits from 2b on for the event of bit b: 0 none, 1 keep, 2 once
abbrev pub callbacks : Configuration → ℕ → ℕ
callbacks C t = packed (λ k. policy_bit (C.calls t (event_at (k / 2))) (k % 2)) (2 * events)

-- the board is that of the configuration
pub record BoardOf (sites : List Site) (C : Configuration) (b : Board) : Type 0 where
  pub wide : length b.cells ≡ length sites
  pub six : length b.callbacks ≡ 6
  pub bases : (l : ℕ) → l < length sites → (cell_at b l).base ≡ (site_at sites l).base
  pub wants : (l : ℕ) (s : Slot) (t : ℕ) → l < length sites → t < 6 → is_bit (cell_at b l).want (place s t) ≡ wants_bit C (site_at sites l) s t
  pub lives : (l : ℕ) (s : Slot) (t : ℕ) → l < length sites → t < 6 → is_bit (cell_at b l).live (place s t) ≡ not (C.off l s t)
  pub global_is : b.global ≡ globals C
  pub callbacks_are : (t : ℕ) → t < 6 → slice_index b.callbacks t ≡ callbacks C t

abbrev pub counts_with : List Mark → List (Option (List ℕ))
counts_with [] = []
counts_with (Off t l k ∷ ms) = counts_with ms
counts_with (Put counts b ∷ ms) = Some counts ∷ counts_with ms

-- the word history stands for the journal
pub record StandsFor (sites : List Site) (J : List JournalLine) (first : Board) (W : List Mark) : Type 0 where
  -- the first board is that of the empty configuration
  pub begins : BoardOf sites nothing first
  -- one board for each call that stopped the world, with its counts
  pub boards : counts_with W ≡ map (λ line. line.stops) (stopping J)
  -- each board is that of the configuration just behind its change
  pub boards_are : (p : ℕ) (counts : List ℕ) (b : Board) → slice_get W p ≡ Some (Put counts b) → BoardOf sites (config_after J (entries 0 (take (suc p) W))) b
