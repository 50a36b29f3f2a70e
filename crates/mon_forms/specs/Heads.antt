-- The first words of a plan's lines: how many words stand behind each, and where its line may stand.
use Rattle.std.specs.Prelude.{ℕ, ◌==◌, nat_le, Bool, ◌&&◌, List, [], ◌∷◌, length, find, Option, codes, bytes_eq}
use Rattle.mon_forms.specs.Calls.{call_word, operands_of}
use Rattle.mon_forms.specs.declared.calls.CallKind.{CallKind}
use Rattle.mon_forms.specs.declared.heads.Head.{Head}
use Rattle.mon_forms.specs.declared.heads.Section.{Section}

abbrev pub head_word : Head → List ℕ
head_word Head.Steps = codes "steps"
head_word Head.Thread = codes "thread"
head_word Head.Before = codes "before"
head_word Head.Script = codes "script"
head_word Head.Schedule = codes "schedule"
head_word Head.Turn = codes "turn"
head_word Head.Call = codes "call"
head_word Head.Report = codes "report"
head_word (Head.Control kind) = call_word kind

abbrev pub all_heads : List Head
all_heads =
    Head.Steps ∷ Head.Thread ∷ Head.Before ∷ Head.Script ∷ Head.Schedule ∷ Head.Turn ∷ Head.Call ∷ Head.Report
    ∷ Head.Control CallKind.UseToolId ∷ Head.Control CallKind.FreeToolId ∷ Head.Control CallKind.GetTool
    ∷ Head.Control CallKind.SetEvents ∷ Head.Control CallKind.GetEvents ∷ Head.Control CallKind.SetLocalEvents
    ∷ Head.Control CallKind.GetLocalEvents ∷ Head.Control CallKind.RegisterCallback ∷ Head.Control CallKind.RestartEvents ∷ []

abbrev pub head_of : List ℕ → Option Head
head_of word = find (λ h. bytes_eq (head_word h) word) all_heads

-- so many words may stand behind it; the arguments of a thread are counted with its parameters
abbrev pub has_form : Head → ℕ → Bool
has_form Head.Steps count = count == 1
has_form Head.Thread count = nat_le 1 count
has_form Head.Before count = count == 0
has_form Head.Script count = count == 0
has_form Head.Schedule count = count == 0
has_form Head.Turn count = count == 2
has_form Head.Call count = count == 1
has_form Head.Report count = count == 2
has_form (Head.Control kind) count = count == length (operands_of kind)

-- the sections in their order; nothing is open before `steps`
abbrev pub section_number : Section → ℕ
section_number Section.Nothing = 0
section_number Section.Steps = 1
section_number Section.Threads = 2
section_number Section.Before = 3
section_number Section.Scripts = 4
section_number Section.Schedule = 5
section_number Section.Reports = 6

abbrev pub is_from_to : ℕ → ℕ → Section → Bool
is_from_to first last section = nat_le first (section_number section) && nat_le (section_number section) last

-- it may follow a line of this section
abbrev pub may_follow : Head → Section → Bool
may_follow Head.Steps = is_from_to 0 0
may_follow Head.Thread = is_from_to 1 2
may_follow Head.Before = is_from_to 1 2
may_follow Head.Script = is_from_to 1 4
may_follow Head.Schedule = is_from_to 1 4
may_follow Head.Turn = is_from_to 5 5
may_follow Head.Call = is_from_to 5 5
may_follow Head.Report = is_from_to 1 6
may_follow (Head.Control kind) = is_from_to 3 4
