-- The registry of tools: what each call replies and what it changes.
use Rattle.std.specs.Prelude.{ℕ, nat_lt, Bool, true, false, not, ◌&&◌, ◌||◌, if◌then◌else◌, List, Option, Some, None, is_some, is_none, option_map, find, ℤ, pos, negsuc, nat_abs}
use Rattle.mon_events.specs.Events.{is_local, all_events}
use Rattle.mon_events.specs.Sets.{has, normal_set, is_global_set, is_local_set, single, set_of}
use Rattle.mon_events.specs.declared.event.Event.{Event}
use Rattle.mon_history.specs.declared.calls.ControlCall.{ControlCall}
use Rattle.mon_history.specs.declared.calls.Policy.{Policy}
use Rattle.mon_history.specs.declared.calls.Reply.{Reply}
use Rattle.mon_history.specs.Configuration.{Configuration, put}
use Rattle.mon_history.specs.Heard.{is_once}

-- the tool of an id, if it is one: ids are 0 to 5
abbrev pub tool : ℤ → Option ℕ
tool (pos n) = if nat_lt n 6 then Some n else None
tool (negsuc n) = None

-- a refusal where the condition fails, else what comes next
abbrev pub ensure : Bool → Reply → Option Reply → Option Reply
ensure ok refusal rest = if ok then rest else Some refusal

abbrev pub with_tool : ℤ → Option ℕ → (ℕ → Option Reply) → Option Reply
with_tool id (Some t) rest = rest t
with_tool id None rest = Some (Reply.BadTool id)

abbrev pub is_local_one : Option Event → Bool
is_local_one (Some e) = is_local e
is_local_one None = false

-- a callback can be registered for exactly one known event, with `Once` only for a local one
abbrev pub is_registrable : ℕ → Policy → Bool
is_registrable set policy = is_some (single set) && (not (is_once policy) || is_local_one (single set))

-- the refusal of a call, if it is refused: BadTool is tried first, then ToolInUse, then BadEvent
abbrev pub refused : Configuration → ControlCall → Option Reply
refused C (ControlCall.UseToolId id name) = with_tool id (tool id) (λ t. option_map Reply.ToolInUse (C.tools t))
refused C (ControlCall.FreeToolId id) = with_tool id (tool id) (λ t. None)
refused C (ControlCall.GetTool id) = with_tool id (tool id) (λ t. None)
refused C (ControlCall.SetEvents id set) = with_tool id (tool id) (λ t. ensure (is_some (C.tools t)) (Reply.BadTool id) (ensure (is_global_set set.0) (Reply.BadEvent set) None))
refused C (ControlCall.GetEvents id) = with_tool id (tool id) (λ t. None)
refused C (ControlCall.SetLocalEvents id code set) = with_tool id (tool id) (λ t. ensure (is_some (C.tools t)) (Reply.BadTool id) (ensure (is_local_set set.0) (Reply.BadEvent set) None))
refused C (ControlCall.GetLocalEvents id code) = with_tool id (tool id) (λ t. None)
refused C (ControlCall.RegisterCallback id set policy) = with_tool id (tool id) (λ t. ensure (is_registrable set.0 policy) (Reply.BadEvent set) None)
refused C ControlCall.RestartEvents = None

abbrev pub is_accepted : Configuration → ControlCall → Bool
is_accepted C call = is_none (refused C call)

abbrev pub name_reply : Option (List ℕ) → Reply
name_reply (Some name) = Reply.Name name
name_reply None = Reply.Nothing

abbrev pub set_reply : (Event → Bool) → Reply
set_reply f = Reply.Set (record { 0 = set_of f })

-- the first event of a set, in the order of the bits
abbrev pub first_event : ℕ → Option Event
first_event set = find (has set) all_events

-- `Nothing` where no event is given, which an accepted call does not have
abbrev pub policy_for : (Event → Policy) → Option Event → Policy
policy_for f (Some e) = f e
policy_for f None = Policy.Nothing

-- the reply of a call that is accepted; `nat_abs id` is its tool
abbrev pub due : Configuration → ControlCall → Reply
due C (ControlCall.GetTool id) = name_reply (C.tools (nat_abs id))
due C (ControlCall.GetEvents id) = set_reply (C.wants (nat_abs id))
due C (ControlCall.GetLocalEvents id code) = set_reply (C.local (nat_abs id) code)
due C (ControlCall.RegisterCallback id set policy) = Reply.Was (policy_for (C.calls (nat_abs id)) (first_event set.0))
due C _ = Reply.Nothing

abbrev pub or_due : Option Reply → Reply → Reply
or_due (Some refusal) answer = refusal
or_due None answer = answer

abbrev pub reply : Configuration → ControlCall → Reply
reply C call = or_due (refused C call) (due C call)

-- what a call that is accepted makes of a configuration
abbrev pub change : ControlCall → Configuration → Configuration
change (ControlCall.UseToolId id name) C = record C { tools = put C.tools (nat_abs id) (Some name) }
change (ControlCall.FreeToolId id) C = record C { tools = put C.tools (nat_abs id) None }
change (ControlCall.SetEvents id set) C = record C { wants = put C.wants (nat_abs id) (has (normal_set set.0)) }
change (ControlCall.SetLocalEvents id code set) C = record C { local = put C.local (nat_abs id) (put (C.local (nat_abs id)) code (has (normal_set set.0))) }
change (ControlCall.RegisterCallback id set policy) C = record C { calls = put C.calls (nat_abs id) (λ e. if has set.0 e then policy else C.calls (nat_abs id) e) }
change ControlCall.RestartEvents C = record C { off = λ l s t. false }
change _ C = C

abbrev pub next : Configuration → ControlCall → Configuration
next C call = if is_accepted C call then change call C else C

-- the four kinds of call for which the world is stopped
abbrev pub is_stopper : ControlCall → Bool
is_stopper (ControlCall.SetEvents id set) = true
is_stopper (ControlCall.SetLocalEvents id code set) = true
is_stopper (ControlCall.RegisterCallback id set policy) = true
is_stopper ControlCall.RestartEvents = true
is_stopper _ = false

abbrev pub stops : Configuration → ControlCall → Bool
stops C call = is_accepted C call && is_stopper call
