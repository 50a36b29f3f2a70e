-- Worked examples: the premises of the laws can be met, and the definitions give what they should.
use Rattle.std.proofs.Common.{◌≡◌, ℕ, Bool, true, false, [], ◌∷◌, refl, sym, ap, ◌∙◌, arith}
use Rattle.std.specs.Prelude.{Option, Some, None, IsTrue, codes}
use Rattle.mon_values.specs.declared.value.Value.{Bool as Truth}
use Rattle.mon_values.specs.declared.value.Value.TheOpen.{Value-F}
use Rattle.mon_values.specs.declared.value.Value.TheFolds.{fold-roll-Value}
use Rattle.mon_values.specs.declared.value.Value.TheViews as values
use Rattle.mon_events.specs.declared.event.Event.{Event}
use Rattle.mon_code.specs.declared.program.Code.{Code}
use Rattle.mon_code.specs.declared.program.Location.{Location}
use Rattle.mon_code.specs.Programs.{Parts}
use Rattle.mon_code.specs.Checked.{IsChecked, IsCode, is_constant, constant_step, never}
use Rattle.mon_recorders.specs.declared.record.Record.{Record}
use Rattle.mon_recorders.specs.declared.report.Outcome.{Outcome}
use Rattle.mon_machine.specs.declared.mode.Mode.{Mode}
use Rattle.mon_machine.specs.State.{start}
use Rattle.mon_machine.specs.Step.{step}
use Rattle.mon_recorders.specs.Happenings.{for_tools}
use Rattle.mon_machine.specs.Run.{after_steps, steps_done}
use Rattle.mon_machine.specs.Serial.{line_records}
use Rattle.mon_machine.specs.Laws.{IsCall}

abbrev location : ℕ → Option ℕ → Bool → Bool → ℕ → Location
location argument line is_marked is_safe stack = record { argument = argument; line = line; is_marked = is_marked; is_safe = is_safe; handler = None; stack = stack; handling = 0 }

-- 1 def f():
-- 2     x = True
-- 3     return x
abbrev f : Code
f = record {
  parameters = 0;
  locals = codes "x" ∷ [];
  globals = [];
  constants = Truth true ∷ [];
  first = 0;
  locations = location 0 None false true 0 ∷ location 0 (Some 2) true false 0 ∷ location 0 (Some 2) false false 1 ∷ location 0 (Some 3) true false 0 ∷ location 0 (Some 3) false false 1 ∷ [];
}

-- 4 def g(y):
-- 5     while True:
-- 6         y = True
-- without the test of the loop
abbrev g : Code
g = record {
  parameters = 1;
  locals = codes "y" ∷ [];
  globals = [];
  constants = Truth true ∷ [];
  first = 5;
  locations = location 0 None false true 0 ∷ location 0 (Some 6) true false 0 ∷ location 0 (Some 6) false false 1 ∷ location 1 None false true 0 ∷ [];
}

abbrev program : Parts
program = record { names = codes "f" ∷ codes "g" ∷ []; constants = []; codes = f ∷ g ∷ []; bases = 1 ∷ 2 ∷ 4 ∷ 3 ∷ 29 ∷ 1 ∷ 2 ∷ 4 ∷ 21 ∷ [] }

true_constant : IsTrue (is_constant (Truth true))
true_constant = ap is_constant (sym (values.rolls-Bool true)) ∙ fold-roll-Value Bool Bool constant_step never (Value-F.Bool true)

f_is_code : IsCode program.bases f
f_is_code = record {
  parameters = omega arith;
  locals = omega arith;
  constants = (true_constant, tt);
  start = refl;
  each = (
    record {
      fits = record { has = omega arith; holds = omega arith; next = λ _. refl; jumps = tt; caught = tt };
      argument = omega arith;
      stands = tt;
      behind = λ w. cc;
      safe = refl;
      marked = refl;
    },
    (
      record {
        fits = record { has = omega arith; holds = omega arith; next = λ _. refl; jumps = tt; caught = tt };
        argument = omega arith;
        stands = tt;
        behind = λ w. cc;
        safe = refl;
        marked = refl;
      },
      (
        record {
          fits = record { has = omega arith; holds = omega arith; next = λ _. refl; jumps = tt; caught = tt };
          argument = omega arith;
          stands = tt;
          behind = λ w. cc;
          safe = refl;
          marked = refl;
        },
        (
          record {
            fits = record { has = omega arith; holds = omega arith; next = λ _. refl; jumps = tt; caught = tt };
            argument = omega arith;
            stands = tt;
            behind = λ w. cc;
            safe = refl;
            marked = refl;
          },
          (
            record {
              fits = record { has = omega arith; holds = omega arith; next = λ h. cc; jumps = tt; caught = tt };
              argument = tt;
              stands = tt;
              behind = λ w. cc;
              safe = refl;
              marked = refl;
            },
            tt,
          ),
        ),
      ),
    ),
  );
}

g_is_code : IsCode program.bases g
g_is_code = record {
  parameters = omega arith;
  locals = omega arith;
  constants = (true_constant, tt);
  start = refl;
  each = (
    record {
      fits = record { has = omega arith; holds = omega arith; next = λ _. refl; jumps = tt; caught = tt };
      argument = omega arith;
      stands = tt;
      behind = λ w. cc;
      safe = refl;
      marked = refl;
    },
    (
      record {
        fits = record { has = omega arith; holds = omega arith; next = λ _. refl; jumps = tt; caught = tt };
        argument = omega arith;
        stands = tt;
        behind = λ w. cc;
        safe = refl;
        marked = refl;
      },
      (
        record {
          fits = record { has = omega arith; holds = omega arith; next = λ _. refl; jumps = tt; caught = tt };
          argument = omega arith;
          stands = tt;
          behind = λ w. cc;
          safe = refl;
          marked = refl;
        },
        (
          record {
            fits = record { has = omega arith; holds = omega arith; next = λ h. cc; jumps = (omega arith, refl); caught = tt };
            argument = tt;
            stands = tt;
            behind = λ w. cc;
            safe = refl;
            marked = refl;
          },
          tt,
        ),
      ),
    ),
  );
}

is_checked : IsChecked program
is_checked = record {
  named = refl;
  small = omega arith;
  constants = tt;
  codes = (refl, f_is_code, (refl, g_is_code, refl));
}

f_is_called : IsCall program 0 f []
f_is_called = record { checked = is_checked; found = refl; count = refl }

f_returns : (after_steps program (start f 0 []) 20).mode ≡ Mode.Ended (Outcome.Returned (Truth true))
unfolding after_steps step
f_returns = refl

f_does : steps_done program (start f 0 []) 20 ≡ 5
unfolding steps_done step
f_does = refl

line_record : (step tool code line : ℕ) → Record
line_record step tool code line = record { step = step; tool = tool; event = Event.Line; code = code; at = line; dest = 0; first = []; second = [] }

f_tells : line_records program 5 0 (start f 0 []) 20 ≡ line_record 1 5 0 2 ∷ line_record 3 5 0 3 ∷ []
unfolding line_records for_tools step line_record
f_tells = refl

g_does : steps_done program (start g 1 (Truth false ∷ [])) 20 ≡ 20
unfolding steps_done step
g_does = refl

-- a jump back to the line of the last instruction that has one tells nothing
g_tells : line_records program 0 7 (start g 1 (Truth false ∷ [])) 20 ≡ line_record 8 0 1 6 ∷ []
unfolding line_records for_tools step line_record
g_tells = refl
