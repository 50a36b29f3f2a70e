-- The plan that a text is, or its first faulty line: what each line is, behind what the lines before have said.
use Rattle.std.specs.Prelude.{ℕ, ◌+◌, ◌*◌, nat_lt, nat_le, Bool, false, not, ◌||◌, List, [], ◌∷◌, ◌++◌, length, drop, slice_get, Option, Some, None, Result, Ok, Err, ◌==◌, if◌then◌else◌}
use Rattle.mon_code.specs.Programs.{Parts, code_named}
use Rattle.mon_code.specs.declared.program.Code.{Code}
use Rattle.mon_history.specs.declared.calls.ControlCall.{ControlCall}
use Rattle.mon_values.specs.declared.value.Value.{Value}
use Rattle.mon_forms.specs.Lines.{lines_of, words_of, word_at, is_skipped, is_plain_line}
use Rattle.mon_forms.specs.Operands.{number_below, has_long_text, arguments_of, report_of}
use Rattle.mon_forms.specs.Calls.{call_of}
use Rattle.mon_forms.specs.Heads.{head_of, has_form, may_follow, section_number}
use Rattle.mon_forms.specs.declared.limits.TheConstants.{MAX_PLAN_BYTES, MAX_STEPS, MAX_ALL_STEPS, MAX_THREADS, MAX_SCRIPTS, MAX_CALLS, MAX_MOVES, MAX_REPORTS, TOOLS}
use Rattle.mon_forms.specs.declared.draft.Draft.{Draft}
use Rattle.mon_forms.specs.declared.heads.Head.{Head}
use Rattle.mon_forms.specs.declared.heads.Section.{Section}
use Rattle.mon_forms.specs.declared.plan.Move.{Move}
use Rattle.mon_forms.specs.declared.plan.Plan.{Plan}
use Rattle.mon_forms.specs.declared.plan.PlanFault.{PlanFault}
use Rattle.mon_forms.specs.declared.plan.PlanKind.{PlanKind}
use Rattle.mon_forms.specs.declared.plan.ReportKind.{ReportKind}
use Rattle.mon_forms.specs.declared.plan.Start.{Start}

abbrev pub or_fault : {A : Type 0} → PlanKind → Option A → Result A PlanKind
or_fault kind None = Err kind
or_fault kind (Some a) = Ok a

-- before the first line
abbrev pub no_lines : Draft
no_lines = record { section = Section.Nothing; calls = 0; steps = 0; threads = []; before = []; scripts = []; schedule = []; reports = [] }

-- one thread more passes a limit: of threads, or of the steps of all of them
abbrev pub has_all_threads : Draft → Bool
has_all_threads d = nat_le MAX_THREADS (length d.threads) || nat_lt MAX_ALL_STEPS (d.steps * (length d.threads + 1))

-- one line more passes a limit; the words are those behind the first
abbrev pub passes_limit : Draft → Head → List (List ℕ) → Bool
passes_limit d Head.Thread words = has_all_threads d || has_long_text (drop 1 words)
passes_limit d Head.Script words = nat_le MAX_SCRIPTS (length d.scripts)
passes_limit d Head.Turn words = nat_le MAX_MOVES (length d.schedule)
passes_limit d Head.Call words = nat_le MAX_MOVES (length d.schedule)
passes_limit d Head.Report words = nat_le MAX_REPORTS (length d.reports)
passes_limit d (Head.Control kind) words = nat_le MAX_CALLS d.calls
passes_limit d _ words = false

abbrev pub with_steps : Draft → Option ℕ → Result Draft PlanKind
with_steps d None = Err PlanKind.Number
with_steps d (Some steps) = Ok (record d { section = Section.Steps; steps = steps })

abbrev pub parameters_of : Option Code → Option ℕ
parameters_of None = None
parameters_of (Some c) = Some c.parameters

abbrev pub start_if : Option ℕ → ℕ → List Value → Result Start PlanKind
start_if None code args = Err PlanKind.Name
start_if (Some count) code args = if count == length args then Ok (record { code = code; args = args }) else Err PlanKind.Number

abbrev pub start_in : List Code → Option ℕ → List Value → Result Start PlanKind
start_in codes None args = Err PlanKind.Name
start_in codes (Some code) args = start_if (parameters_of (slice_get codes code)) code args

abbrev pub start_named : Parts → List ℕ → List Value → Result Start PlanKind
start_named p name args = start_in p.codes (code_named p name) args

-- a code by its name, with an argument for each of its parameters; ill-formed arguments come before an unknown name
abbrev pub start_of : Parts → List ℕ → Option (List Value) → Result Start PlanKind
start_of p name None = Err PlanKind.Number
start_of p name (Some args) = start_named p name args

abbrev pub with_start : Draft → Result Start PlanKind → Result Draft PlanKind
with_start d (Err kind) = Err kind
with_start d (Ok start) = Ok (record d { section = Section.Threads; threads = d.threads ++ start ∷ [] })

abbrev pub with_script : Draft → Draft
with_script d = record d { section = Section.Scripts; scripts = d.scripts ++ [] ∷ [] }

abbrev pub turn_of : Option ℕ → Option ℕ → Option Move
turn_of (Some thread) (Some steps) = Some (Move.Turn thread steps)
turn_of _ _ = None

abbrev pub call_move : Option ℕ → Option Move
call_move None = None
call_move (Some script) = Some (Move.Call script)

abbrev pub with_move : Draft → Option Move → Result Draft PlanKind
with_move d None = Err PlanKind.Number
with_move d (Some move) = Ok (record d { schedule = d.schedule ++ move ∷ [] })

-- a tool and a kind of report; the number comes before the name
abbrev pub with_report : Draft → Option ℕ → Option ReportKind → Result Draft PlanKind
with_report d None kind = Err PlanKind.Number
with_report d (Some tool) None = Err PlanKind.Name
with_report d (Some tool) (Some kind) = Ok (record d { section = Section.Reports; reports = d.reports ++ record { kind = kind; tool = tool } ∷ [] })

-- the last of the scripts has one call more
abbrev pub onto_last : List (List ControlCall) → ControlCall → List (List ControlCall)
onto_last [] call = []
onto_last (script ∷ []) call = (script ++ call ∷ []) ∷ []
onto_last (script ∷ next ∷ scripts) call = script ∷ onto_last (next ∷ scripts) call

abbrev pub onto_script : Draft → ControlCall → Draft
onto_script d call = record d { scripts = onto_last d.scripts call }

abbrev pub onto_section : Draft → ControlCall → Section → Draft
onto_section d call Section.Before = record d { calls = d.calls + 1; before = d.before ++ call ∷ [] }
onto_section d call _ = record d { calls = d.calls + 1; scripts = onto_last d.scripts call }

-- a call belongs to the section that is open
abbrev pub with_call : Draft → Result ControlCall PlanKind → Result Draft PlanKind
with_call d (Err kind) = Err kind
with_call d (Ok call) = Ok (onto_section d call d.section)

-- one line more; the words are those behind the first
abbrev pub with_line : Parts → Draft → Head → List (List ℕ) → Result Draft PlanKind
with_line p d Head.Steps words = with_steps d (number_below (MAX_STEPS + 1) (word_at 0 words))
with_line p d Head.Thread words = with_start d (start_of p (word_at 0 words) (arguments_of (drop 1 words)))
with_line p d Head.Before words = Ok (record d { section = Section.Before })
with_line p d Head.Script words = Ok (with_script d)
with_line p d Head.Schedule words = Ok (record d { section = Section.Schedule })
with_line p d Head.Turn words = with_move d (turn_of (number_below (length d.threads) (word_at 0 words)) (number_below (MAX_STEPS + 1) (word_at 1 words)))
with_line p d Head.Call words = with_move d (call_move (number_below (length d.scripts) (word_at 0 words)))
with_line p d Head.Report words = with_report d (number_below TOOLS (word_at 1 words)) (report_of (word_at 0 words))
with_line p d (Head.Control kind) words = with_call d (call_of p kind words)

-- the first of a line's faults in this order, or what the line says
abbrev pub add_headed : Parts → Draft → Option Head → List (List ℕ) → Result Draft PlanKind
add_headed p d None words = Err PlanKind.Word
add_headed p d (Some head) words =
    if not (has_form head (length words)) then Err PlanKind.Word
    else if not (may_follow head d.section) then Err PlanKind.Order
    else if passes_limit d head words then Err PlanKind.TooMany
    else with_line p d head words

abbrev pub add_line : Parts → Draft → List ℕ → Result Draft PlanKind
add_line p d line =
    if is_skipped (words_of line) then Ok d
    else if not (is_plain_line line) then Err PlanKind.Word
    else add_headed p d (head_of (word_at 0 (words_of line))) (drop 1 (words_of line))

abbrev pub at_line : ℕ → Result Draft PlanKind → Result Draft PlanFault
at_line number (Err kind) = Err (PlanFault.Faulty number kind)
at_line number (Ok d) = Ok d

-- these lines, the first of which has this number, up to a faulty one
abbrev pub add_lines : Parts → ℕ → Result Draft PlanFault → List (List ℕ) → Result Draft PlanFault
add_lines p number (Err fault) lines = Err fault
add_lines p number (Ok d) [] = Ok d
add_lines p number (Ok d) (line ∷ lines) = add_lines p (number + 1) (at_line number (add_line p d line)) lines

abbrev pub plan_in : Draft → Plan
plan_in d =
    record { workload = record { steps = d.steps; threads = d.threads; before = d.before; scripts = d.scripts }; schedule = d.schedule; reports = d.reports }

-- a plan has a line `steps`
abbrev pub finished : ℕ → Result Draft PlanFault → Result Plan PlanFault
finished number (Err fault) = Err fault
finished number (Ok d) = if section_number d.section == 0 then Err (PlanFault.Faulty number PlanKind.Order) else Ok (plan_in d)

abbrev pub plan_of_lines : Parts → List (List ℕ) → Result Plan PlanFault
plan_of_lines p lines = finished (length lines + 1) (add_lines p 1 (Ok no_lines) lines)

abbrev pub plan_of : Parts → List ℕ → Result Plan PlanFault
plan_of p text = if nat_lt MAX_PLAN_BYTES (length text) then Err (PlanFault.Faulty 0 PlanKind.TooMany) else plan_of_lines p (lines_of text)
