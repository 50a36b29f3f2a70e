-- What the events of an instruction show, by what is known before it and by where it leads.
use Rattle.std.specs.Prelude.{ℕ, ◌*◌, Option, Some, slice_get}
use Rattle.mon_code.specs.Programs.{Parts}
use Rattle.mon_events.specs.declared.op.Op.{Op}
use Rattle.mon_frames.specs.declared.frame.Frame.{Frame}
use Rattle.mon_machine.specs.Events.{Shown, nothing, of_value, of_call, stopped}
use Rattle.mon_interp.specs.declared.shows.Shows.{Shows}

-- the values, and no offset
abbrev pub shown_in : Shows → Shown
shown_in s = record { dest = 0; first = s.first; second = s.second }

abbrev pub going : ℕ → Shown → Shown
going dest s = record s { dest = dest }

-- what the event of an opcode shows, but for where it goes
abbrev pub values : Parts → Op → ℕ → Frame → Option Shown
values p Op.EndFor n f = stopped p (slice_get f.stack 0)
values p Op.Call n f = Some (of_call p n f.stack)
values p Op.ReturnValue n f = Some (of_value p (slice_get f.stack 0))
values p Op.YieldValue n f = Some (of_value p (slice_get f.stack 0))
values p _ n f = Some nothing

-- the offset that it goes to, where its frame then stands at an index
abbrev pub dest : Op → ℕ → ℕ → ℕ
dest Op.JumpForward n index = 2 * n
dest Op.JumpBackward n index = 2 * n
dest Op.PopJumpIfFalse n index = 2 * index
dest Op.PopJumpIfTrue n index = 2 * index
dest Op.PopJumpIfDone n index = 2 * index
dest _ n index = 0
