-- What happens in an instruction step.
use Rattle.std.specs.Prelude.{ℕ, ◌*◌, ◌==◌, List, [], ◌∷◌, ◌++◌, take, Option, Some, None, Result, Ok, Err, slice_get, if◌then◌else◌}
use Rattle.mon_values.specs.declared.value.Value.{Value, Exc as Raised-value, Builtin, Gen}
use Rattle.mon_values.specs.declared.value.Value.TheOpen.{Value-F}
use Rattle.mon_values.specs.declared.value.Value.TheViews.{out-Value}
use Rattle.mon_values.specs.declared.value.Exc.{Exc}
use Rattle.mon_values.specs.Printing.{repr_of}
use Rattle.mon_events.specs.declared.event.Event.{Event}
use Rattle.mon_events.specs.declared.event.Slot.{Slot}
use Rattle.mon_events.specs.declared.op.Op.{Op}
use Rattle.mon_events.specs.Ops.{main_event}
use Rattle.mon_code.specs.Programs.{Parts}
use Rattle.mon_frames.specs.declared.frame.Frame.{Frame}
use Rattle.mon_frames.specs.declared.call.Call.{Call}
use Rattle.mon_recorders.specs.declared.happening.Happening.{Happening}
use Rattle.mon_recorders.specs.declared.happening.Kind.{Kind}
use Rattle.mon_recorders.specs.declared.happening.Kind.TheVariants.{Local, Global, Ancillary}
use Rattle.mon_machine.specs.declared.mode.Answer.{Answer}
use Rattle.mon_machine.specs.declared.mode.Ending.{Ending}
use Rattle.mon_machine.specs.State.{Move}
use Rattle.mon_machine.specs.Moves.{callee_in, args_in}

-- the line of the last executed instruction that has one
abbrev pub line_after : Option ℕ → Option ℕ → Option ℕ
line_after None last = last
line_after (Some line) last = Some line

abbrev pub offset : Frame → ℕ
offset f = 2 * f.index

-- an event in a frame, at a line or its offset
abbrev pub happens : Event → Kind → Frame → ℕ → Happening
happens event kind f at = record { event = event; kind = kind; code = f.code; at = at; offset = offset f; dest = 0; first = []; second = [] }

-- LINE, where the location has a line that differs from the frame's last one
abbrev pub line_events : Frame → ℕ → Option ℕ → Option ℕ → List Happening
line_events f location None last = []
line_events f location (Some line) None = happens Event.Line (Local location Slot.Line) f line ∷ []
line_events f location (Some line) (Some last) = if line == last then [] else happens Event.Line (Local location Slot.Line) f line ∷ []

-- a value as a record shows it
abbrev pub cut : Parts → Value → List ℕ
cut p v = take 40 (repr_of p.names v)

abbrev pub cut_or_none : Parts → Option Value → List ℕ
cut_or_none p None = []
cut_or_none p (Some v) = cut p v

-- what an event shows
pub record Shown : Type 0 where
  pub dest : ℕ
  pub first : List ℕ
  pub second : List ℕ

abbrev pub nothing : Shown
nothing = record { dest = 0; first = []; second = [] }

abbrev pub going_to : ℕ → Shown
going_to index = record { dest = 2 * index; first = []; second = [] }

abbrev pub index_in : List Call → ℕ
index_in [] = 0
index_in (call ∷ calls) = call.frame.index

-- a value alone
abbrev pub of_value : Parts → Option Value → Shown
of_value p v = record { dest = 0; first = cut_or_none p v; second = [] }

-- the callee and the first argument
abbrev pub of_call : Parts → ℕ → List Value → Shown
of_call p n stack = record { dest = 0; first = cut_or_none p (callee_in n stack); second = cut_or_none p (slice_get (args_in n stack) 0) }

-- the builtin and the generator
abbrev pub of_answer : Parts → Answer → Shown
of_answer p a = record { dest = 0; first = cut p (Builtin a.builtin); second = cut p (Gen a.generator) }

abbrev pub stopped_at : Parts → Value-F Value Exc → Option Shown
stopped_at p (Value-F.Done (Some e)) = Some (of_value p (Some (Raised-value e)))
stopped_at p _ = None

-- the end of a loop over a generator
abbrev pub stopped : Parts → Option Value → Option Shown
stopped p None = None
stopped p (Some v) = stopped_at p (out-Value v)

-- what the event of an opcode shows, where it occurs: of the frame before, and of the calls after
abbrev pub shown : Parts → Op → ℕ → Frame → List Call → Option Shown
shown p Op.JumpForward n f calls = Some (going_to n)
shown p Op.JumpBackward n f calls = Some (going_to n)
shown p Op.PopJumpIfFalse n f calls = Some (going_to (index_in calls))
shown p Op.PopJumpIfTrue n f calls = Some (going_to (index_in calls))
shown p Op.PopJumpIfDone n f calls = Some (going_to (index_in calls))
shown p Op.EndFor n f calls = stopped p (slice_get f.stack 0)
shown p Op.Call n f calls = Some (of_call p n f.stack)
shown p Op.ReturnValue n f calls = Some (of_value p (slice_get f.stack 0))
shown p Op.YieldValue n f calls = Some (of_value p (slice_get f.stack 0))
shown p _ n f calls = Some nothing

abbrev pub showing : Shown → Happening → Happening
showing s h = record h { dest = s.dest; first = s.first; second = s.second }

-- an event of a slot, and what it shows
pub record SlotEvent : Type 0 where
  pub event : Event
  pub slot : Slot
  pub shows : Shown

abbrev pub in_main : Option Event → Option Shown → Option SlotEvent
in_main None s = None
in_main (Some event) None = None
in_main (Some event) (Some s) = Some (record { event = event; slot = Slot.Main; shows = s })

-- the local event of an instruction beside LINE and INSTRUCTION
abbrev pub local_event : Parts → Op → ℕ → Frame → Move → Option SlotEvent
local_event p op n f m = in_main (main_event op n) (shown p op n f m.frames.calls)

abbrev pub slot_events : Option SlotEvent → ℕ → Frame → List Happening
slot_events None location f = []
slot_events (Some e) location f = showing e.shows (happens e.event (Local location e.slot) f (offset f)) ∷ []

-- C_RETURN or C_RAISE, with the callee and the first argument
abbrev pub ancillary_events : Option Event → Shown → ℕ → Frame → List Happening
ancillary_events None s location f = []
ancillary_events (Some event) s location f = showing s (happens event (Ancillary location) f (offset f)) ∷ []

-- an event of an exception
abbrev pub of_exception : Parts → Event → Exc → Frame → Happening
of_exception p event e f = showing (of_value p (Some (Raised-value e))) (happens event Global f (offset f))

-- PY_THROW and RAISE in the generator into which an exception is thrown, whose frame is on top
abbrev pub throw_events : Parts → Exc → List Call → List Happening
throw_events p e [] = []
throw_events p e (call ∷ calls) = of_exception p Event.PyThrow e call.frame ∷ of_exception p Event.Raise e call.frame ∷ []

-- RAISE or RERAISE in the frame of the instruction, as it was before, or what happens in a generator, as it stands after
abbrev pub raise_events : Parts → Frame → List Call → Ending → List Happening
raise_events p f calls (Ending.Raises e) = of_exception p Event.Raise e f ∷ []
raise_events p f calls (Ending.Reraises e) = of_exception p Event.Reraise e f ∷ []
raise_events p f calls (Ending.ThrowsIn e) = throw_events p e calls
raise_events p f calls _ = []

-- the events of an instruction in their order, with its frame before
abbrev pub instruction_events : Parts → Op → ℕ → ℕ → Option ℕ → Frame → Move → List Happening
instruction_events p op n location line f m =
    line_events f location line f.line
    ++ (happens Event.Instruction (Local location Slot.Instruction) f (offset f)
    ∷ (slot_events (local_event p op n f m) location f
    ++ (ancillary_events m.ancillary (of_call p n f.stack) location f
    ++ raise_events p f m.frames.calls m.ending)))

-- the events at the end of a call that resumed a generator, where its frame stands at this location
abbrev pub answer_events : Parts → Answer → ℕ → Frame → Result Value Exc → List Happening
answer_events p a location f (Ok x) = ancillary_events (Some Event.CReturn) (of_answer p a) location f
answer_events p a location f (Err e) = ancillary_events (Some Event.CRaise) (of_answer p a) location f ++ of_exception p Event.Raise e f ∷ []
