-- The control calls as lines: one row for each.
use Rattle.std.specs.Prelude.{ℕ, List, [], ◌∷◌, Option, Some, None, Result, Ok, Err, ℤ, pos, codes}
use Rattle.mon_code.specs.Programs.{Parts, code_named}
use Rattle.mon_events.specs.declared.set.EventSet.{EventSet}
use Rattle.mon_history.specs.declared.calls.ControlCall.{ControlCall}
use Rattle.mon_history.specs.declared.calls.Policy.{Policy}
use Rattle.mon_forms.specs.Operands.{integer_of, tool_name_of, set_of, policy_of}
use Rattle.mon_forms.specs.declared.calls.CallKind.{CallKind}
use Rattle.mon_forms.specs.declared.calls.CallParts.{CallParts}
use Rattle.mon_forms.specs.declared.calls.Operand.{Operand}
use Rattle.mon_forms.specs.declared.plan.PlanKind.{PlanKind}

abbrev pub call_word : CallKind → List ℕ
call_word CallKind.UseToolId = codes "use_tool_id"
call_word CallKind.FreeToolId = codes "free_tool_id"
call_word CallKind.GetTool = codes "get_tool"
call_word CallKind.SetEvents = codes "set_events"
call_word CallKind.GetEvents = codes "get_events"
call_word CallKind.SetLocalEvents = codes "set_local_events"
call_word CallKind.GetLocalEvents = codes "get_local_events"
call_word CallKind.RegisterCallback = codes "register_callback"
call_word CallKind.RestartEvents = codes "restart_events"

abbrev pub operands_of : CallKind → List Operand
operands_of CallKind.UseToolId = Operand.Id ∷ Operand.Name ∷ []
operands_of CallKind.FreeToolId = Operand.Id ∷ []
operands_of CallKind.GetTool = Operand.Id ∷ []
operands_of CallKind.SetEvents = Operand.Id ∷ Operand.Set ∷ []
operands_of CallKind.GetEvents = Operand.Id ∷ []
operands_of CallKind.SetLocalEvents = Operand.Id ∷ Operand.Code ∷ Operand.Set ∷ []
operands_of CallKind.GetLocalEvents = Operand.Id ∷ Operand.Code ∷ []
operands_of CallKind.RegisterCallback = Operand.Id ∷ Operand.Set ∷ Operand.Policy ∷ []
operands_of CallKind.RestartEvents = []

abbrev pub no_parts : CallParts
no_parts = record { id = pos 0; name = []; code = 0; set = record { 0 = 0 }; policy = Policy.Nothing }

abbrev pub with_id : CallParts → Option ℤ → Result CallParts PlanKind
with_id parts None = Err PlanKind.Number
with_id parts (Some id) = Ok (record parts { id = id })

abbrev pub with_name : CallParts → Option (List ℕ) → Result CallParts PlanKind
with_name parts None = Err PlanKind.Name
with_name parts (Some name) = Ok (record parts { name = name })

abbrev pub with_code : CallParts → Option ℕ → Result CallParts PlanKind
with_code parts None = Err PlanKind.Name
with_code parts (Some code) = Ok (record parts { code = code })

abbrev pub with_set : CallParts → Option EventSet → Result CallParts PlanKind
with_set parts None = Err PlanKind.Name
with_set parts (Some set) = Ok (record parts { set = set })

abbrev pub with_policy : CallParts → Option Policy → Result CallParts PlanKind
with_policy parts None = Err PlanKind.Name
with_policy parts (Some policy) = Ok (record parts { policy = policy })

-- the parts of a call with one operand more, by its word
abbrev pub with_operand : Parts → Operand → List ℕ → CallParts → Result CallParts PlanKind
with_operand p Operand.Id word parts = with_id parts (integer_of word)
with_operand p Operand.Name word parts = with_name parts (tool_name_of word)
with_operand p Operand.Code word parts = with_code parts (code_named p word)
with_operand p Operand.Set word parts = with_set parts (set_of word)
with_operand p Operand.Policy word parts = with_policy parts (policy_of word)

-- and with all these operands; there is a word for each
abbrev pub with_operands : Parts → Result CallParts PlanKind → List Operand → List (List ℕ) → Result CallParts PlanKind
with_operands p (Err kind) operands words = Err kind
with_operands p (Ok parts) [] words = Ok parts
with_operands p (Ok parts) (operand ∷ operands) [] = Err PlanKind.Word
with_operands p (Ok parts) (operand ∷ operands) (word ∷ words) = with_operands p (with_operand p operand word parts) operands words

abbrev pub call_with : CallKind → CallParts → ControlCall
call_with CallKind.UseToolId parts = ControlCall.UseToolId parts.id parts.name
call_with CallKind.FreeToolId parts = ControlCall.FreeToolId parts.id
call_with CallKind.GetTool parts = ControlCall.GetTool parts.id
call_with CallKind.SetEvents parts = ControlCall.SetEvents parts.id parts.set
call_with CallKind.GetEvents parts = ControlCall.GetEvents parts.id
call_with CallKind.SetLocalEvents parts = ControlCall.SetLocalEvents parts.id parts.code parts.set
call_with CallKind.GetLocalEvents parts = ControlCall.GetLocalEvents parts.id parts.code
call_with CallKind.RegisterCallback parts = ControlCall.RegisterCallback parts.id parts.set parts.policy
call_with CallKind.RestartEvents parts = ControlCall.RestartEvents

abbrev pub call_if : CallKind → Result CallParts PlanKind → Result ControlCall PlanKind
call_if kind (Err fault) = Err fault
call_if kind (Ok parts) = Ok (call_with kind parts)

-- the call of the words behind its name; an id is looked at before the names
abbrev pub call_of : Parts → CallKind → List (List ℕ) → Result ControlCall PlanKind
call_of p kind words = call_if kind (with_operands p (Ok no_parts) (operands_of kind) words)
