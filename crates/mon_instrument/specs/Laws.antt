-- What the first words of a program stand for.
use Rattle.std.specs.Prelude.{ℕ, ◌<◌, [], slice_index}
use Rattle.mon_code.specs.Checked.{IsChecked}
use Rattle.mon_code.specs.Programs.{Parts}
use Rattle.mon_code.specs.Sites.{sites_of}
use Rattle.mon_words.specs.Words.{first_words}
use Rattle.mon_words.specs.Standing.{board_of}
use Rattle.mon_history.specs.Stands.{StandsFor}

-- the journal without calls, where the base opcodes are bytes
abbrev pub FirstWordsStand : Type 0
FirstWordsStand = (p : Parts) → IsChecked p → ((l : ℕ) → slice_index p.bases l < 256) → StandsFor (sites_of p) [] (board_of (first_words p.bases)) []
