-- The exit statuses by their numbers.
use Rattle.std.specs.Prelude.{ℕ, Bool, true, false}
use Rattle.mon_main.specs.declared.status.Status.{Status}

abbrev pub code_of : Status → ℕ
code_of Status.Done = 0
code_of Status.Usage = 2
code_of Status.Source = 3
code_of Status.Plan = 4
code_of Status.ReadFault = 5
code_of Status.WriteFault = 6
code_of Status.Memory = 7

-- whether the words, FILE and PLAN were answered
abbrev pub is_answer : Status → Bool
is_answer Status.ReadFault = false
is_answer Status.WriteFault = false
is_answer Status.Memory = false
is_answer _ = true
