-- The commands, and the words that ask for them.
use Rattle.std.specs.Prelude.{ℕ, List, [], ◌∷◌, ◌++◌, map, Option, Some, None, Bool, true, false, not, ◌==◌, ◌&&◌, nat_le, if◌then◌else◌, find, codes, String, string_bytes}
use Rattle.std.specs.Str.{bytes_eq}
use Rattle.std.specs.declared.alloc.Global.{Global}
use Rattle.mon_forms.specs.Operands.{digits_value}
use Rattle.mon_main.specs.declared.command.Command.{Command}
use Rattle.mon_main.specs.declared.command.TheConstants.{MAX_NUMBER}
use Rattle.mon_main.specs.declared.command.Operands.{Operands}
use Rattle.mon_main.specs.declared.command.Request as code
use Rattle.mon_main.specs.declared.command.Request.TheVariants as code_has

-- the words as bytes
abbrev pub texts : List (String Global) → List (List ℕ)
texts words = map string_bytes words

abbrev pub word_of : Command → List ℕ
word_of Command.Run = codes "run"
word_of Command.Replay = codes "replay"
word_of Command.Dis = codes "dis"
word_of Command.Gen = codes "gen"

abbrev pub operands_of : Command → Operands
operands_of Command.Run = Operands.FileAndPlan
operands_of Command.Replay = Operands.FileAndPlan
operands_of Command.Dis = Operands.File
operands_of Command.Gen = Operands.Number

abbrev pub is_threaded : Command → Bool
is_threaded Command.Run = true
is_threaded _ = false

abbrev pub commands : List Command
commands = Command.Run ∷ Command.Replay ∷ Command.Dis ∷ Command.Gen ∷ []

-- the operands as the usage names them
abbrev pub operands_text : Operands → List ℕ
operands_text Operands.FileAndPlan = codes "FILE PLAN"
operands_text Operands.File = codes "FILE"
operands_text Operands.Number = codes "NUMBER"

abbrev pub form_of : Command → List ℕ
form_of c = word_of c ++ codes " " ++ operands_text (operands_of c)

-- the texts with ` | ` before each
abbrev pub alternatives : List Command → List ℕ
alternatives [] = []
alternatives (c ∷ cs) = codes " | " ++ form_of c ++ alternatives cs

abbrev pub forms : List Command → List ℕ
forms [] = []
forms (c ∷ cs) = form_of c ++ alternatives cs

-- the forms of all commands
unfoldable pub usage_line : List ℕ
usage_line = codes "usage: " ++ forms commands ++ codes "\n"

-- what is asked for
pub data Request : Type 0 where
  Run : (file plan : List ℕ) → Request
  Replay : (file plan : List ℕ) → Request
  Dis : (file : List ℕ) → Request
  Gen : (number : ℕ) → Request

-- what the code has for it
abbrev pub asked : code.Request → Request
asked (code_has.Run file plan) = Run file.now plan.now
asked (code_has.Replay file plan) = Replay file.now plan.now
asked (code_has.Dis file) = Dis file.now
asked (code_has.Gen number) = Gen number

abbrev pub command_of : Request → Command
command_of (Run file plan) = Command.Run
command_of (Replay file plan) = Command.Replay
command_of (Dis file) = Command.Dis
command_of (Gen number) = Command.Gen

-- a word that is not empty and does not begin with `-`
abbrev pub is_name : List ℕ → Bool
is_name [] = false
is_name (b ∷ bs) = not (b == 45)

abbrev pub at_most : ℕ → Option ℕ → Option ℕ
at_most limit None = None
at_most limit (Some n) = if nat_le n limit then Some n else None

-- a number from 1 to 500 in decimal digits, the first of them not 0
abbrev pub number_of : List ℕ → Option ℕ
number_of [] = None
number_of (c ∷ cs) = if c == 48 then None else at_most MAX_NUMBER (digits_value (c ∷ cs))

abbrev pub numbered : Option ℕ → Option Request
numbered None = None
numbered (Some n) = Some (Gen n)

-- a command with what is given to it
abbrev pub given : Command → List (List ℕ) → Option Request
given Command.Run (file ∷ plan ∷ []) = if is_name file && is_name plan then Some (Run file plan) else None
given Command.Replay (file ∷ plan ∷ []) = if is_name file && is_name plan then Some (Replay file plan) else None
given Command.Dis (file ∷ []) = if is_name file then Some (Dis file) else None
given Command.Gen (number ∷ []) = numbered (number_of number)
given _ _ = None

-- the command of this word
abbrev pub named : List ℕ → Option Command
named word = find (λ c. bytes_eq (word_of c) word) commands

abbrev pub given_to : Option Command → List (List ℕ) → Option Request
given_to None operands = None
given_to (Some c) operands = given c operands

-- what these words ask for, behind the program's name
abbrev pub request_of : List (List ℕ) → Option Request
request_of [] = None
request_of (word ∷ operands) = given_to (named word) operands

abbrev pub unless_threaded : Option Request → Option Request
unless_threaded None = None
unless_threaded (Some r) = if is_threaded (command_of r) then None else Some r

-- what these words ask for of one thread
abbrev pub serial_request : List (List ℕ) → Option Request
serial_request words = unless_threaded (request_of words)

-- the names that a request reads, FILE first
abbrev pub names_read : Request → List (List ℕ)
names_read (Run file plan) = file ∷ plan ∷ []
names_read (Replay file plan) = file ∷ plan ∷ []
names_read (Dis file) = file ∷ []
names_read (Gen number) = []
