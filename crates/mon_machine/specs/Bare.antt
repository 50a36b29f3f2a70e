-- Boards by which nothing is wanted.
use Rattle.std.specs.Prelude.{ℕ, ◌≡◌}
use Rattle.mon_words.specs.declared.history.Board.{Board}
use Rattle.mon_words.specs.History.{cell_at}

-- no event is wanted: neither by the global word, nor by a want bit of a location
pub record IsBare (b : Board) : Type 0 where
  pub global : b.global ≡ 0
  pub locations : (location : ℕ) → (cell_at b location).want ≡ 0
