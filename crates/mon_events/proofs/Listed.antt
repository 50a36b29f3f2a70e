-- Sets of events by their bits.
use Rattle.std.proofs.Common.{◌≡◌, ◌^◌, ◌<◌, Bool, Some, refl, ap, ◌∙◌, arith}
use Rattle.mon_events.specs.Events.{bit, events, event_at, name_of}
use Rattle.mon_events.specs.Names.{event_named}
use Rattle.mon_events.specs.Sets.{has, set_of}
use Rattle.mon_events.specs.declared.event.Event.{Event}
use Rattle.mon_events.proofs.Bits.{packed_lt, packed_bit}

pub bit_lt : (e : Event) → bit e < events
bit_lt Event.Branch = omega arith
bit_lt Event.Call = omega arith
bit_lt Event.CRaise = omega arith
bit_lt Event.CReturn = omega arith
bit_lt Event.ExceptionHandled = omega arith
bit_lt Event.Instruction = omega arith
bit_lt Event.Jump = omega arith
bit_lt Event.Line = omega arith
bit_lt Event.PyResume = omega arith
bit_lt Event.PyReturn = omega arith
bit_lt Event.PyStart = omega arith
bit_lt Event.PyThrow = omega arith
bit_lt Event.PyUnwind = omega arith
bit_lt Event.PyYield = omega arith
bit_lt Event.Raise = omega arith
bit_lt Event.Reraise = omega arith
bit_lt Event.StopIteration = omega arith

-- each event stands in the list of all at its bit
pub event_back : (e : Event) → event_at (bit e) ≡ e
event_back Event.Branch = refl
event_back Event.Call = refl
event_back Event.CRaise = refl
event_back Event.CReturn = refl
event_back Event.ExceptionHandled = refl
event_back Event.Instruction = refl
event_back Event.Jump = refl
event_back Event.Line = refl
event_back Event.PyResume = refl
event_back Event.PyReturn = refl
event_back Event.PyStart = refl
event_back Event.PyThrow = refl
event_back Event.PyUnwind = refl
event_back Event.PyYield = refl
event_back Event.Raise = refl
event_back Event.Reraise = refl
event_back Event.StopIteration = refl

-- the set of the events that pass a test has just those, and no unknown bit
pub set_bit : (f : Event → Bool) (e : Event) → has (set_of f) e ≡ f e
set_bit f e = packed_bit (λ b. f (event_at b)) events (bit e) (bit_lt e) ∙ ap f (event_back e)

pub set_lt : (f : Event → Bool) → set_of f < 2 ^ events
set_lt f = packed_lt (λ b. f (event_at b)) events

pub name_back : (e : Event) → event_named (name_of e) ≡ Some e
name_back Event.Branch = refl
name_back Event.Call = refl
name_back Event.CRaise = refl
name_back Event.CReturn = refl
name_back Event.ExceptionHandled = refl
name_back Event.Instruction = refl
name_back Event.Jump = refl
name_back Event.Line = refl
name_back Event.PyResume = refl
name_back Event.PyReturn = refl
name_back Event.PyStart = refl
name_back Event.PyThrow = refl
name_back Event.PyUnwind = refl
name_back Event.PyYield = refl
name_back Event.Raise = refl
name_back Event.Reraise = refl
name_back Event.StopIteration = refl
