-- The text of a report, as bytes: the calls of the journal, each thread by its number, and the rows of the reports that are asked for.
use Rattle.std.specs.Prelude.{ℕ, ◌==◌, ◌^◌, nat_le, if◌then◌else◌, List, [], ◌∷◌, ◌++◌, Option, Some, None, slice_get, codes, encode_utf8_all, map}
use Rattle.std.specs.Fmt.{decimal, signed_decimal}
use Rattle.std.specs.List.{flat_map, filter}
use Rattle.mon_code.specs.Programs.{Parts}
use Rattle.mon_events.specs.Events.{name_of, all_events, events}
use Rattle.mon_events.specs.Sets.{has}
use Rattle.mon_events.specs.declared.event.Event.{Event}
use Rattle.mon_history.specs.declared.calls.ControlCall.{ControlCall}
use Rattle.mon_history.specs.declared.calls.Reply.{Reply}
use Rattle.mon_history.specs.declared.calls.Who.{Who}
use Rattle.mon_history.specs.declared.journal.JournalLine.{JournalLine}
use Rattle.mon_recorders.specs.declared.record.Disabled.{Disabled}
use Rattle.mon_recorders.specs.declared.record.Record.{Record}
use Rattle.mon_recorders.specs.declared.report.Outcome.{Outcome}
use Rattle.mon_recorders.specs.declared.report.ThreadReport.{ThreadReport}
use Rattle.mon_values.specs.declared.value.Exc.{Exc}
use Rattle.mon_values.specs.declared.value.Value
use Rattle.mon_forms.specs.Calls.{call_word, operands_of, no_parts}
use Rattle.mon_forms.specs.Operands.{policy_word}
use Rattle.mon_forms.specs.Rows.{reports_text}
use Rattle.mon_forms.specs.Texts.{each_from, code_text, number_text, numbers_text, value_text}
use Rattle.mon_forms.specs.declared.calls.CallKind.{CallKind}
use Rattle.mon_forms.specs.declared.calls.CallParts.{CallParts}
use Rattle.mon_forms.specs.declared.calls.Operand.{Operand}
use Rattle.mon_forms.specs.declared.plan.Plan.{Plan}
use Rattle.mon_forms.specs.declared.plan.Start.{Start}
use Rattle.mon_forms.specs.declared.report.Report.{Report}
use Rattle.mon_forms.specs.declared.telling.RecordForm.{RecordForm}

-- the texts, with a `|` before each
abbrev pub barred : List (List ℕ) → List ℕ
barred [] = []
barred (x ∷ xs) = codes "|" ++ x ++ barred xs

-- the texts, with a `|` between them
abbrev pub joined : List (List ℕ) → List ℕ
joined [] = []
joined (x ∷ xs) = x ++ barred xs

-- the names of a set's events, in the order of their bits
abbrev pub names_in : ℕ → List (List ℕ)
names_in set = map name_of (filter (has set) all_events)

-- a set: its names; 0 where it is empty; its number where it has a bit of no event
abbrev pub set_text : ℕ → List ℕ
set_text set = if set == 0 then codes "0" else if nat_le (2 ^ events) set then decimal set else joined (names_in set)

-- a call by its name and its operands
abbrev pub kind_of : ControlCall → CallKind
kind_of (ControlCall.UseToolId id name) = CallKind.UseToolId
kind_of (ControlCall.FreeToolId id) = CallKind.FreeToolId
kind_of (ControlCall.GetTool id) = CallKind.GetTool
kind_of (ControlCall.SetEvents id set) = CallKind.SetEvents
kind_of (ControlCall.GetEvents id) = CallKind.GetEvents
kind_of (ControlCall.SetLocalEvents id code set) = CallKind.SetLocalEvents
kind_of (ControlCall.GetLocalEvents id code) = CallKind.GetLocalEvents
kind_of (ControlCall.RegisterCallback id event policy) = CallKind.RegisterCallback
kind_of ControlCall.RestartEvents = CallKind.RestartEvents

abbrev pub parts_of : ControlCall → CallParts
parts_of (ControlCall.UseToolId id name) = record no_parts { id = id; name = name }
parts_of (ControlCall.FreeToolId id) = record no_parts { id = id }
parts_of (ControlCall.GetTool id) = record no_parts { id = id }
parts_of (ControlCall.SetEvents id set) = record no_parts { id = id; set = set }
parts_of (ControlCall.GetEvents id) = record no_parts { id = id }
parts_of (ControlCall.SetLocalEvents id code set) = record no_parts { id = id; code = code; set = set }
parts_of (ControlCall.GetLocalEvents id code) = record no_parts { id = id; code = code }
parts_of (ControlCall.RegisterCallback id event policy) = record no_parts { id = id; set = event; policy = policy }
parts_of ControlCall.RestartEvents = no_parts

-- an operand, behind a space
abbrev pub operand_text : Parts → CallParts → Operand → List ℕ
operand_text p parts Operand.Id = codes " " ++ signed_decimal parts.id
operand_text p parts Operand.Name = codes " " ++ encode_utf8_all parts.name
operand_text p parts Operand.Code = codes " " ++ code_text p parts.code
operand_text p parts Operand.Set = codes " " ++ set_text parts.set.0
operand_text p parts Operand.Policy = codes " " ++ policy_word parts.policy

abbrev pub operands_text : Parts → CallParts → List Operand → List ℕ
operands_text p parts operands = flat_map (operand_text p parts) operands

abbrev pub parts_text : Parts → CallKind → CallParts → List ℕ
parts_text p kind parts = call_word kind ++ operands_text p parts (operands_of kind)

-- a call as a plan has it
abbrev pub call_text : Parts → ControlCall → List ℕ
call_text p call = parts_text p (kind_of call) (parts_of call)

-- a name in single quotes
abbrev pub quoted_text : List ℕ → List ℕ
quoted_text name = codes "'" ++ encode_utf8_all name ++ codes "'"

abbrev pub reply_text : Reply → List ℕ
reply_text Reply.Nothing = codes "None"
reply_text (Reply.Name name) = quoted_text name
reply_text (Reply.Set set) = set_text set.0
reply_text (Reply.Was policy) = policy_word policy
reply_text (Reply.BadTool id) = codes "BadTool(" ++ signed_decimal id ++ codes ")"
reply_text (Reply.ToolInUse name) = codes "ToolInUse(" ++ quoted_text name ++ codes ")"
reply_text (Reply.BadEvent set) = codes "BadEvent(" ++ decimal set.0 ++ codes ")"

abbrev pub who_text : Who → List ℕ
who_text Who.Before = codes "before"
who_text (Who.Script script) = codes "script " ++ decimal script

-- the threads' counts of steps, where the call stopped the world
abbrev pub stops_text : Option (List ℕ) → List ℕ
stops_text None = []
stops_text (Some counts) = codes " at" ++ numbers_text counts

-- a call, behind who made it
abbrev pub made_text : Parts → JournalLine → List ℕ
made_text p line = codes "journal " ++ who_text line.who ++ codes " " ++ call_text p line.call

abbrev pub answer_text : Reply → Option (List ℕ) → List ℕ
answer_text reply stops = codes " = " ++ reply_text reply ++ stops_text stops ++ codes "\n"

abbrev pub journal_line : Parts → JournalLine → List ℕ
journal_line p line = made_text p line ++ answer_text line.reply line.stops

abbrev pub journal_text : Parts → List JournalLine → List ℕ
journal_text p lines = flat_map (journal_line p) lines

-- a text that was printed
abbrev pub out_line : Parts → List ℕ → List ℕ
out_line p text = codes "out " ++ value_text p (Value.Text text) ++ codes "\n"

-- what is told of an event behind its code and its place
abbrev pub form_of : Event → RecordForm
form_of Event.Branch = RecordForm.Jump
form_of Event.Jump = RecordForm.Jump
form_of Event.Call = RecordForm.Call
form_of Event.CRaise = RecordForm.Call
form_of Event.CReturn = RecordForm.Call
form_of Event.ExceptionHandled = RecordForm.Value
form_of Event.PyReturn = RecordForm.Value
form_of Event.PyThrow = RecordForm.Value
form_of Event.PyUnwind = RecordForm.Value
form_of Event.PyYield = RecordForm.Value
form_of Event.Raise = RecordForm.Value
form_of Event.Reraise = RecordForm.Value
form_of Event.StopIteration = RecordForm.Value
form_of Event.Instruction = RecordForm.Place
form_of Event.Line = RecordForm.Place
form_of Event.PyResume = RecordForm.Place
form_of Event.PyStart = RecordForm.Place

-- an argument of a call, if there is one
abbrev pub second_text : List ℕ → List ℕ
second_text [] = codes "MISSING"
second_text (c ∷ cs) = encode_utf8_all (c ∷ cs)

-- what is called, and its first argument
abbrev pub called_text : Record → List ℕ
called_text r = codes " " ++ encode_utf8_all r.first ++ codes " " ++ second_text r.second

abbrev pub form_text : RecordForm → Record → List ℕ
form_text RecordForm.Place r = []
form_text RecordForm.Value r = codes " " ++ encode_utf8_all r.first
form_text RecordForm.Call r = called_text r
form_text RecordForm.Jump r = number_text r.dest

-- the offset, or the line for LINE, and what else is told of the event
abbrev pub arguments_text : Record → List ℕ
arguments_text r = number_text r.at ++ form_text (form_of r.event) r

-- a step, a tool and an event
abbrev pub event_text : ℕ → ℕ → Event → List ℕ
event_text step tool event = decimal step ++ codes " " ++ decimal tool ++ codes " " ++ name_of event ++ codes " "

abbrev pub record_line : Parts → Record → List ℕ
record_line p r = codes "rec " ++ event_text r.step r.tool r.event ++ code_text p r.code ++ arguments_text r ++ codes "\n"

abbrev pub disable_line : Parts → Disabled → List ℕ
disable_line p d = codes "disable " ++ event_text d.step d.tool d.event ++ code_text p d.code ++ number_text d.at ++ codes "\n"

abbrev pub exc_text : Parts → Exc → List ℕ
exc_text p e = value_text p (Value.Exc e)

abbrev pub outcome_text : Parts → Outcome → List ℕ
outcome_text p (Outcome.Returned v) = codes "returned " ++ value_text p v
outcome_text p (Outcome.Raised e) = codes "raised " ++ exc_text p e
outcome_text p Outcome.Limit = codes "limit"

abbrev pub end_line : Parts → ℕ → Outcome → List ℕ
end_line p steps outcome = codes "end " ++ decimal steps ++ codes " " ++ outcome_text p outcome ++ codes "\n"

-- the name of the code that a thread calls
abbrev pub start_text : Parts → Option Start → List ℕ
start_text p None = []
start_text p (Some start) = code_text p start.code

abbrev pub thread_line : Parts → List Start → ℕ → List ℕ
thread_line p starts number = codes "thread " ++ decimal number ++ codes " " ++ start_text p (slice_get starts number) ++ codes "\n"

abbrev pub outs_text : Parts → List (List ℕ) → List ℕ
outs_text p texts = flat_map (out_line p) texts

abbrev pub records_text : Parts → List Record → List ℕ
records_text p records = flat_map (record_line p) records

abbrev pub disables_text : Parts → List Disabled → List ℕ
disables_text p disables = flat_map (disable_line p) disables

abbrev pub thread_text : Parts → List Start → ℕ → ThreadReport → List ℕ
thread_text p starts number r = thread_line p starts number ++ outs_text p r.printed ++ records_text p r.records ++ disables_text p r.disables ++ end_line p r.steps r.outcome

abbrev pub threads_text : Parts → List Start → List ThreadReport → List ℕ
threads_text p starts threads = each_from (thread_text p starts) 0 threads

-- the calls, the threads, and the reports that the plan asks for
abbrev pub report_text : Parts → Plan → Report → List ℕ
report_text p plan r = journal_text p r.journal.lines ++ threads_text p plan.workload.threads r.threads ++ reports_text p r.threads plan.reports
