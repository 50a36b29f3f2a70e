-- A generator that waits under a handler of its own.
use Rattle.std.proofs.Common.{◌≡◌, IsTrue, refl, sym, ap, ◌∙◌, lit<, lit≤}
use Rattle.std.specs.Prelude.{Bool, Some, None}
use Rattle.mon_values.specs.declared.value.Value as value
use Rattle.mon_values.specs.declared.value.Value.TheOpen.{Value-F}
use Rattle.mon_values.specs.declared.value.Value.TheFolds.{fold-roll-Value}
use Rattle.mon_values.specs.declared.value.Value.TheViews as values
use Rattle.mon_code.specs.declared.program.Handler.{Handler}
use Rattle.mon_code.specs.Checked.{is_constant, constant_step, never, IsChecked}
use Rattle.mon_code.specs.Waiting.{one_yield, kept_value, KeepsNoYieldedValue}

none_constant : IsTrue (is_constant value.None)
none_constant = ap is_constant (sym values.rolls-None) ∙ fold-roll-Value Bool Bool constant_step never Value-F.None

checked : IsChecked (one_yield None)
checked = record {
  named = refl;
  small = lit≤ tt;
  constants = tt;
  codes = (
    refl,
    record {
      parameters = lit≤ tt;
      locals = lit≤ tt;
      constants = (none_constant, tt);
      start = refl;
      each = (
        record { fits = record { has = lit≤ tt; holds = lit≤ tt; next = λ w. refl; jumps = tt; caught = tt }; argument = tt; stands = refl; behind = λ w. refl; safe = refl; marked = refl },
        (
          record { fits = record { has = lit≤ tt; holds = lit≤ tt; next = λ w. refl; jumps = tt; caught = tt }; argument = tt; stands = tt; behind = λ w. cc; safe = refl; marked = refl },
          (
            record { fits = record { has = lit≤ tt; holds = lit≤ tt; next = λ w. refl; jumps = tt; caught = tt }; argument = lit< tt; stands = tt; behind = λ w. cc; safe = refl; marked = refl },
            (
              record { fits = record { has = lit≤ tt; holds = lit≤ tt; next = λ w. refl; jumps = tt; caught = tt }; argument = lit< tt; stands = tt; behind = λ w. cc; safe = refl; marked = refl },
              (
                record { fits = record { has = lit≤ tt; holds = lit≤ tt; next = λ w. refl; jumps = tt; caught = tt }; argument = tt; stands = refl; behind = λ w. refl; safe = refl; marked = refl },
                (
                  record { fits = record { has = lit≤ tt; holds = lit≤ tt; next = λ w. refl; jumps = tt; caught = tt }; argument = lit< tt; stands = tt; behind = λ w. cc; safe = refl; marked = refl },
                  (
                    record { fits = record { has = lit≤ tt; holds = lit≤ tt; next = λ w. cc; jumps = tt; caught = tt }; argument = tt; stands = tt; behind = λ w. cc; safe = refl; marked = refl },
                    (
                      record { fits = record { has = lit≤ tt; holds = lit≤ tt; next = λ w. refl; jumps = tt; caught = tt }; argument = tt; stands = tt; behind = λ w. cc; safe = refl; marked = refl },
                      (
                        record { fits = record { has = lit≤ tt; holds = lit≤ tt; next = λ w. cc; jumps = tt; caught = tt }; argument = tt; stands = tt; behind = λ w. cc; safe = refl; marked = refl },
                        tt,
                      ),
                    ),
                  ),
                ),
              ),
            ),
          ),
        ),
      );
    },
    refl,
  );
}

clash : (h : Handler) → Some h ≡ None → ⊥
clash h e = cc

pub keeps_no_yielded_value : KeepsNoYieldedValue
keeps_no_yielded_value = (checked, λ p. clash kept_value (p.codes.1.each.1.1.1.1.0.behind refl))
