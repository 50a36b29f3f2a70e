-- Worked rows of the definitions.
use Rattle.std.proofs.Common.{◌≡◌, [], ◌∷◌, None, Some, Ok, Err, refl, replicate}
use Rattle.std.specs.Prelude.{pos, negsuc, codes}
use Rattle.mon_values.specs.declared.value.Value.{None as NoneValue}
use Rattle.mon_values.specs.declared.operator.CmpOp.TheVariants.{Lt, Gt}
use Rattle.mon_values.specs.Troubles.{trouble, wrong_argument, out_of_range}
use Rattle.mon_builtins.specs.Literals.{literal}
use Rattle.mon_builtins.specs.Extremes.{extreme, best_among}
use Rattle.mon_builtins.specs.Builtins.{ranged, abs_at, wrong_count, short}

blanks_and_minus : literal (codes " -12 ") ≡ Some (negsuc 11)
blanks_and_minus = refl

underscore_between : literal (codes "+1_000\n") ≡ Some (pos 1000)
underscore_between = refl

zeros_before : literal (codes "007") ≡ Some (pos 7)
zeros_before = refl

minus_zero : literal (codes "-0") ≡ Some (pos 0)
minus_zero = refl

two_underscores : literal (codes "1__0") ≡ None
two_underscores = refl

underscore_last : literal (codes "1_") ≡ None
underscore_last = refl

underscore_first : literal (codes "_1") ≡ None
underscore_first = refl

blank_behind_sign : literal (codes "- 1") ≡ None
blank_behind_sign = refl

blank_within : literal (codes "1 2") ≡ None
blank_within = refl

sign_alone : literal (codes "+") ≡ None
sign_alone = refl

no_digits : literal (codes "  ") ≡ None
no_digits = refl

kind_before_step : ranged None (Some (pos 1)) (Some (pos 0)) ≡ Err wrong_argument
kind_before_step = refl

no_step : ranged (Some (pos 0)) (Some (pos 1)) (Some (pos 0)) ≡ Err (trouble 12)
no_step = refl

least_has_no_abs : abs_at (Some (negsuc 9223372036854775807)) ≡ Err out_of_range
least_has_no_abs = refl

no_items : best_among Lt [] ≡ Err (trouble 13)
no_items = refl

lone_item : best_among Lt (NoneValue ∷ []) ≡ Ok NoneValue
lone_item = refl

no_arguments : extreme Gt [] ≡ Err wrong_count
no_arguments = refl

a_line_too_long : short (replicate 4097 97) ≡ None
a_line_too_long = refl
