-- What a control shows: its journal, and the numbers of threads and codes.
use Rattle.std.specs.Prelude.{◌≡◌, ℕ, ◌<◌, ◌++◌, ◌∷◌, Bool, true, false, List, [], map, length, slice_index, replicate, Option, Some, None}
use Rattle.mon_code.specs.Programs.{Parts}
use Rattle.mon_words.specs.Halted.{Halt}
use Rattle.mon_words.specs.History.{cell_at}
use Rattle.mon_words.specs.declared.history.Mark.TheVariants.{Put}
use Rattle.mon_history.specs.declared.calls.ControlCall.{ControlCall}
use Rattle.mon_history.specs.declared.calls.Who.{Who}
use Rattle.mon_history.specs.declared.calls.Policy.{Policy}
use Rattle.mon_history.specs.declared.config.Config.{Config}
use Rattle.mon_history.specs.declared.config.Tool.{Tool}
use Rattle.mon_history.specs.declared.journal.JournalLine.{JournalLine}
use Rattle.mon_code.specs.Sites.{site_at, sites_of}
use Rattle.mon_history.specs.Journal.{replay, IsLawful}
use Rattle.mon_history.specs.Registry.{reply}
use Rattle.mon_history.specs.Kept.{config_of, IsKept}
use Rattle.mon_history.specs.Stands.{StandsFor}
use Rattle.mon_instrument.specs.Due.{AllNormal, is_reached, chosen, differs, walked_also}
use Rattle.mon_instrument.specs.declared.walking.Reach.{Reach}

pub record Shown : Type 0 where
  pub journal : List JournalLine
  -- for how many more calls the journal has room
  pub room : ℕ
  pub threads : ℕ
  pub codes : ℕ

-- a tool that nobody uses
abbrev pub empty_tool : Tool
empty_tool = record { name = None; wants = record { 0 = 0 }; policies = replicate 17 Policy.Nothing }

-- the journal is lawful and replays to the configuration
pub record IsControl (config : Config) (journal : List JournalLine) (threads codes : ℕ) : Type 0 where
  pub lawful : IsLawful threads journal
  pub replays : config_of config ≡ replay journal
  pub kept : IsKept codes config

-- a code that the call names is one of so many
abbrev pub NamesCode : ℕ → ControlCall → Type 0
NamesCode codes (ControlCall.SetLocalEvents id code set) = code < codes
NamesCode codes (ControlCall.GetLocalEvents id code) = code < codes
NamesCode codes _ = Unit {0}

-- the line of a call that is made after the journal's
abbrev pub line_of : List JournalLine → Who → ControlCall → Option (List ℕ) → JournalLine
line_of J who call stops = record { call = call; who = who; reply = reply (replay J) call; stops = stops }

-- where the change of a call can touch words of locations
abbrev pub reach_of : ControlCall → Reach
reach_of (ControlCall.SetEvents id set) = Reach.Everywhere
reach_of (ControlCall.SetLocalEvents id code set) = Reach.Code code
reach_of ControlCall.RestartEvents = Reach.Everywhere
reach_of _ = Reach.Nowhere

-- the locations that it can touch, in ascending order
abbrev pub touched : Parts → ControlCall → List ℕ
touched p call = chosen (λ l. is_reached (reach_of call) (site_at (sites_of p) l)) 0 (length (sites_of p))

abbrev pub restarts : ControlCall → Bool
restarts ControlCall.RestartEvents = true
restarts _ = false

-- the counts noted in a stop: so many threads, and each count is that of the thread
pub record Counted (n : ℕ) (counts : List ℕ) (old new : Halt) : Type 0 where
  pub noted : ℕ → Option ℕ
  pub is : new ≡ record old { noted = noted }
  pub noted_are : (t : ℕ) → t < n → noted t ≡ Some (slice_index counts t)

-- a call that stops the world was made in it: the counts in the journal are those noted, and with the board that stands
-- the history stands for the new journal
pub record Commits (p : Parts) (threads : ℕ) (J : List JournalLine) (who : Who) (call : ControlCall) (old new : Halt) (K : List JournalLine) : Type 0 where
  pub counts : List ℕ
  pub is : K ≡ J ++ line_of J who call (Some counts) ∷ []
  pub wide : length counts ≡ threads
  pub noted : (t : ℕ) → t < threads → new.noted t ≡ Some (slice_index counts t)
  pub stands : StandsFor (sites_of p) K old.first (old.seen ++ Put counts new.board ∷ [])
  pub first : new.first ≡ old.first
  pub threads_are : new.threads ≡ old.threads
  pub seen : new.seen ≡ old.seen
  -- the locations that the call can touch were read, once each; exactly those whose bits came to differ were rewritten, once
  -- each, by words that are their own normal forms
  pub more : List (ℕ × ℕ)
  pub written : new.written ≡ old.written ++ more
  pub normals : AllNormal more
  pub stored : map (λ w. w.0) more ≡ chosen (λ l. differs (cell_at new.board l) (cell_at old.board l)) 0 (length (sites_of p))
  pub tally : new.tally ≡ walked_also old.tally (touched p call) (length more)
