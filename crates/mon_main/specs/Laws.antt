-- The laws of answers.
use Rattle.std.specs.Prelude.{◌≡◌, ℕ, List, Option}
use Rattle.mon_parser.specs.Texts.{Reading}
use Rattle.mon_main.specs.Answers.{Answers}
use Rattle.mon_main.specs.Commands.{Request, serial_request}
use Rattle.mon_main.specs.declared.status.Status.{Status}

-- a request has one status
abbrev pub StatusesAgree : Type 0
StatusesAgree = (asked : Option Request) (reading : Reading) (plan : List ℕ) (status other : Status) (text more : List ℕ) → Answers asked reading plan status text → Answers asked reading plan other more → status ≡ other

-- and what words ask for of one thread has one text
abbrev pub TextsAgree : Type 0
TextsAgree = (words : List (List ℕ)) (reading : Reading) (plan : List ℕ) (status other : Status) (text more : List ℕ) → Answers (serial_request words) reading plan status text → Answers (serial_request words) reading plan other more → text ≡ more
