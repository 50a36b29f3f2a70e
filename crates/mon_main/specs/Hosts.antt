-- What a host writes.
use Rattle.std.specs.Prelude.{ℕ, List, Option}
use Rattle.mon_parser.specs.Texts.{Reading}
use Rattle.mon_outside.specs.Outside.{Writes, WritesPrefix}
use Rattle.mon_main.specs.Answers.{Answers}
use Rattle.mon_main.specs.Commands.{Request}
use Rattle.mon_main.specs.declared.status.Status.{Status}

-- the answer of this status is written whole
pub record Gives (asked : Option Request) (reading : Reading) (plan : List ℕ) (status : Status) (old new : Option (List ℕ)) : Type 0 where
  pub text : List ℕ
  pub answers : Answers asked reading plan status text
  pub written : Writes old text new

-- the answer is written in part
pub record GivesPart (asked : Option Request) (reading : Reading) (plan : List ℕ) (old new : Option (List ℕ)) : Type 0 where
  pub status : Status
  pub text : List ℕ
  pub answers : Answers asked reading plan status text
  pub written : WritesPrefix old text new
