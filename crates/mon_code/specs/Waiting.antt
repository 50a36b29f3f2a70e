-- Why what stands behind a yielded value has the same handler as that value.
use Rattle.std.specs.Prelude.{ℕ, false, [], ◌∷◌, map, Option, Some, None, codes}
use Rattle.mon_events.specs.declared.op.Op.{Op}
use Rattle.mon_events.specs.Ops.{number_of}
use Rattle.mon_values.specs.declared.value.Value as value
use Rattle.mon_code.specs.declared.program.Handler.{Handler}
use Rattle.mon_code.specs.declared.program.Location.{Location}
use Rattle.mon_code.specs.Programs.{Parts}
use Rattle.mon_code.specs.Checked.{is_safe, IsChecked}

abbrev pub bare_location : Op → Option Handler → ℕ → ℕ → Location
bare_location op handler argument stack =
    record { argument = argument; line = None; is_marked = false; is_safe = is_safe op; handler = handler; stack = stack; handling = 0 }

-- RETURN_GENERATOR; POP_TOP; RESUME 0; LOAD_CONST; YIELD_VALUE; RESUME 1 with this handler; RETURN_VALUE; POP_TOP; RETURN_VALUE
abbrev pub one_yield : Option Handler → Parts
one_yield handler = record {
  names = codes "g" ∷ [];
  constants = [];
  codes = record {
    parameters = 0;
    locals = [];
    globals = [];
    constants = value.None ∷ [];
    first = 0;
    locations =
        bare_location Op.ReturnGenerator None 0 0
        ∷ bare_location Op.PopTop None 0 1
        ∷ bare_location Op.Resume None 0 0
        ∷ bare_location Op.LoadConst None 0 0
        ∷ bare_location Op.YieldValue None 0 1
        ∷ bare_location Op.Resume handler 1 1
        ∷ bare_location Op.ReturnValue None 0 1
        ∷ bare_location Op.PopTop None 0 2
        ∷ bare_location Op.ReturnValue None 0 1
        ∷ [];
  } ∷ [];
  bases = map number_of (Op.ReturnGenerator ∷ Op.PopTop ∷ Op.Resume ∷ Op.LoadConst ∷ Op.YieldValue ∷ Op.Resume ∷ Op.ReturnValue ∷ Op.PopTop ∷ Op.ReturnValue ∷ []);
}

-- POP_TOP, with one value that is kept and the exception above it
abbrev pub kept_value : Handler
kept_value = record { to = 7; stack = 1; handling = 0 }

-- A generator that waits at RESUME 1 has one value less than is recorded there, so an exception that is thrown into it
-- finds nothing that the handler could keep: the program is a checked one without this handler, and none with it.
abbrev pub KeepsNoYieldedValue : Type 0
KeepsNoYieldedValue = IsChecked (one_yield None) × ¬ IsChecked (one_yield (Some kept_value))
