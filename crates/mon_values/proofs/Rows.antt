-- Worked rows of the definitions.
use Rattle.std.proofs.Common.{◌≡◌, [], ◌∷◌, None, Some, Ok, Err, true, false, refl}
use Rattle.std.specs.Prelude.{pos, negsuc, codes}
use Rattle.mon_values.specs.declared.operator.ArithOp.TheVariants.{FloorDiv, Mod}
use Rattle.mon_values.specs.declared.value.Value.{Int}
use Rattle.mon_values.specs.Integers.{floor_div, floor_mod}
use Rattle.mon_values.specs.Arithmetic.{of_integers}
use Rattle.mon_values.specs.Comparing.{same_ranges, text_verdict}
use Rattle.mon_values.specs.declared.compare.Verdict.TheVariants.{Less}
use Rattle.mon_values.specs.Containing.{stands_in}
use Rattle.mon_values.specs.Indexing.{place_of}
use Rattle.mon_values.specs.Classes.{is_subclass}
use Rattle.mon_values.specs.Printing.{alike, text_repr, tuple_repr}
use Rattle.mon_values.specs.Ranges.{range_length, is_range_item}
use Rattle.mon_values.specs.Troubles as t

floor_low : floor_div (negsuc 6) (pos 2) ≡ negsuc 3
floor_low = refl

mod_low : floor_mod (negsuc 6) (pos 2) ≡ pos 1
mod_low = refl

mod_by_low : floor_mod (pos 7) (negsuc 1) ≡ negsuc 0
mod_by_low = refl

least_by_one : of_integers FloorDiv (negsuc 9223372036854775807) (negsuc 0) ≡ Err t.out_of_range
least_by_one = refl

least_mod_one : of_integers Mod (negsuc 9223372036854775807) (negsuc 0) ≡ Ok (Int (pos 0))
least_mod_one = refl

last_place : place_of (negsuc 0) 3 ≡ Some 2
last_place = refl

no_place : place_of (pos 2) 2 ≡ None
no_place = refl

of_name_error : is_subclass 10 1 ≡ true
of_name_error = refl

of_no_lookup : is_subclass 10 7 ≡ false
of_no_lookup = refl

of_itself : is_subclass 200 200 ≡ true
of_itself = refl

quoted_twice : text_repr (codes "it's") ≡ codes "\"it's\""
quoted_twice = refl

one_printed : tuple_repr (alike (codes "None") ∷ []) ≡ codes "(None,)"
one_printed = refl

two_printed : tuple_repr (alike (codes "1") ∷ alike (codes "2") ∷ []) ≡ codes "(1, 2)"
two_printed = refl

row_named : t.row_of (t.trouble 25) ≡ t.Named 10 (codes "name '") (codes "' is not bound")
row_named = refl

prefix_less : text_verdict (codes "ab") (codes "abc") ≡ Less
prefix_less = refl

ranges_equal : same_ranges (pos 0) (pos 3) (pos 2) (pos 0) (pos 4) (pos 2) ≡ true
ranges_equal = refl

long_range : range_length (negsuc 9223372036854775807) (pos 9223372036854775807) (pos 1) ≡ 18446744073709551615
long_range = refl

in_down : is_range_item (pos 10) (pos 0) (negsuc 1) (pos 4) ≡ true
in_down = refl

in_text : stands_in (codes "bc") (codes "abcd") ≡ true
in_text = refl
