-- What the controller of a run keeps before its first call and after each, want of memory included.
use Rattle.std.specs.Prelude.{◌≡◌, ℕ, zero, suc, ◌+◌, ◌-◌, List, [], ◌∷◌, ◌++◌, length, slice_index, Some}
use Rattle.mon_code.specs.Programs.{Parts}
use Rattle.mon_code.specs.Sites.{sites_of}
use Rattle.mon_words.specs.History.{puts}
use Rattle.mon_gate.specs.declared.view.View.{View}
use Rattle.mon_history.specs.Journal.{IsLawful}
use Rattle.mon_history.specs.Stands.{StandsFor}
use Rattle.mon_history.specs.declared.calls.ControlCall.{ControlCall}
use Rattle.mon_history.specs.declared.calls.Who.{Who}
use Rattle.mon_history.specs.declared.journal.JournalLine.{JournalLine}
use Rattle.mon_control.specs.View.{Shown}
use Rattle.mon_run.specs.Turns.{Asked, asked}

-- The journal is lawful, the history that the first pass has seen stands for it, and its boards are the first pass's own.
pub record Governs (p : Parts) (c : Shown) (v : View) : Type 0 where
  pub threads : v.threads ≡ c.threads
  pub codes : length p.codes ≡ c.codes
  pub lawful : IsLawful c.threads c.journal
  pub stands : StandsFor (sites_of p) c.journal v.first v.seen
  pub own : puts v.seen ≡ v.mine

-- the same threads, first board, tickets and ended numbers
pub record SameShares (v w : View) : Type 0 where
  pub threads : w.threads ≡ v.threads
  pub first : w.first ≡ v.first
  pub tickets : w.tickets ≡ v.tickets
  pub ended : w.ended ≡ v.ended

-- the same numbers of threads and codes
pub record SameSizes (c d : Shown) : Type 0 where
  pub threads : d.threads ≡ c.threads
  pub codes : d.codes ≡ c.codes

-- A call was made. While the first pass has every ticket, the counts of its stop are 0.
pub record Made (J : List JournalLine) (who : Who) (call : ControlCall) (v : View) (K : List JournalLine) : Type 0 where
  pub line : JournalLine
  pub is : K ≡ J ++ line ∷ []
  pub who_is : line.who ≡ who
  pub call_is : line.call ≡ call
  pub early : v.tickets ≡ v.threads → (counts : List ℕ) → line.stops ≡ Some counts → (t : ℕ) → slice_index counts t ≡ 0

-- these calls were added to a journal
pub record Grown (J K : List JournalLine) (calls : List Asked) : Type 0 where
  pub more : List JournalLine
  pub is : K ≡ J ++ more
  pub asked_are : asked more ≡ calls

-- how many calls are left, where each script has made n, and the first k one more
abbrev pub calls_due : ℕ → ℕ → List (List ControlCall) → ℕ
calls_due n k [] = 0
calls_due n zero (script ∷ scripts) = length script - n + calls_due n zero scripts
calls_due n (suc k) (script ∷ scripts) = length script - suc n + calls_due n k scripts
