-- What contracts see of a journal.
use Rattle.std.specs.Prelude.{ℕ, List}
use Rattle.mon_history.specs.declared.journal.JournalLine.{JournalLine}

pub record Lines : Type 0 where
  pub lines : List JournalLine
  -- for how many more there is room
  pub room : ℕ
