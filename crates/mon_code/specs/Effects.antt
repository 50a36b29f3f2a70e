-- What each opcode does to the operand stack and to the handling list, and where it goes on.
use Rattle.std.specs.Prelude.{ℕ, ◌+◌, Bool, true, false}
use Rattle.mon_events.specs.declared.op.Op.{Op}

pub record Effect : Type 0 where
  -- the values that it needs on the stack and takes away, and those that it then puts there
  pub takes : ℕ
  pub puts : ℕ
  -- the exceptions that it takes from the handling list, and those that it appends
  pub drops : ℕ
  pub adds : ℕ
  -- whether it may go on to the next index
  pub goes_on : Bool
  -- whether it may jump, and the values that it puts on the stack where it does
  pub jumps : Bool
  pub carries : ℕ

abbrev pub plain : ℕ → ℕ → Effect
plain takes puts = record { takes = takes; puts = puts; drops = 0; adds = 0; goes_on = true; jumps = false; carries = 0 }

abbrev pub branch : ℕ → ℕ → ℕ → Effect
branch takes puts carries = record { takes = takes; puts = puts; drops = 0; adds = 0; goes_on = true; jumps = true; carries = carries }

abbrev pub jump : Effect
jump = record { takes = 0; puts = 0; drops = 0; adds = 0; goes_on = false; jumps = true; carries = 0 }

-- what leaves the code
abbrev pub last : ℕ → ℕ → Effect
last takes drops = record { takes = takes; puts = 0; drops = drops; adds = 0; goes_on = false; jumps = false; carries = 0 }

abbrev pub effect_of : Op → ℕ → Effect
effect_of Op.Nop n = plain 0 0
effect_of Op.Resume n = plain 0 0
effect_of Op.LoadConst n = plain 0 1
effect_of Op.LoadFast n = plain 0 1
effect_of Op.StoreFast n = plain 1 0
effect_of Op.DeleteFast n = plain 0 0
effect_of Op.LoadGlobal n = plain 0 1
effect_of Op.LoadMethod n = plain 1 2
effect_of Op.BinaryOp n = plain 2 1
effect_of Op.CompareOp n = plain 2 1
effect_of Op.ContainsOp n = plain 2 1
effect_of Op.IsOp n = plain 2 1
effect_of Op.UnaryNegative n = plain 1 1
effect_of Op.UnaryNot n = plain 1 1
effect_of Op.BuildTuple n = plain n 1
effect_of Op.UnpackSequence n = plain 1 n
effect_of Op.BinarySubscr n = plain 2 1
effect_of Op.Copy n = plain 1 2
effect_of Op.Swap n = plain 2 2
effect_of Op.PopTop n = plain 1 0
effect_of Op.JumpForward n = jump
effect_of Op.JumpBackward n = jump
effect_of Op.PopJumpIfFalse n = branch 1 0 0
effect_of Op.PopJumpIfTrue n = branch 1 0 0
effect_of Op.GetIter n = plain 1 1
effect_of Op.ForIter n = plain 1 2
effect_of Op.PopJumpIfDone n = branch 2 2 1
effect_of Op.EndFor n = plain 1 0
effect_of Op.Call n = plain (1 + n) 1
effect_of Op.ReturnValue n = last 1 0
effect_of Op.ReturnGenerator n = plain 0 1
effect_of Op.YieldValue n = plain 1 1
effect_of Op.RaiseVarargs n = last n 0
effect_of Op.Reraise n = last 1 1
effect_of Op.PushExcInfo n = record { takes = 1; puts = 1; drops = 0; adds = 1; goes_on = true; jumps = false; carries = 0 }
effect_of Op.CheckExcMatch n = plain 2 2
effect_of Op.PopExcept n = record { takes = 0; puts = 0; drops = 1; adds = 0; goes_on = true; jumps = false; carries = 0 }
