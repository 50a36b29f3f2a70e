-- A registry over a plain board whose history stands for its journal.
use Rattle.std.specs.Prelude.{◌≡◌, ℕ, length}
use Rattle.mon_code.specs.Programs.{Parts}
use Rattle.mon_code.specs.Sites.{sites_of}
use Rattle.mon_history.specs.Stands.{StandsFor}
use Rattle.mon_control.specs.View.{Shown}
use Rattle.mon_board.specs.PlainViews.{IsRunning}
use Rattle.mon_board.specs.declared.plain_view.PlainView.{PlainView}

pub record IsReady (p : Parts) (c : Shown) (v : PlainView) : Type 0 where
  pub stands : StandsFor (sites_of p) c.journal v.first v.seen
  pub running : IsRunning v
  pub threads : v.threads ≡ c.threads
  pub codes : length p.codes ≡ c.codes
