-- What each builtin gives.
use Rattle.std.specs.Prelude.{ℕ, ◌==◌, nat_le, List, [], ◌∷◌, ◌++◌, length, Option, Some, None, Result, Ok, Err, ℤ, pos, unsigned_abs, if◌then◌else◌}
use Rattle.std.specs.List.{flat_map}
use Rattle.mon_values.specs.declared.value.Value.{Value, Int, Text, Tuple, Range}
use Rattle.mon_values.specs.declared.value.Value.TheOpen.{Value-F}
use Rattle.mon_values.specs.declared.value.Value.TheViews.{out-Value}
use Rattle.mon_values.specs.declared.value.Exc.{Exc}
use Rattle.mon_values.specs.declared.fault.Trouble.{Trouble}
use Rattle.mon_values.specs.declared.operator.CmpOp.{CmpOp}
use Rattle.mon_values.specs.Arithmetic.{Operand, Number, Chars, operand, integer, in_range}
use Rattle.mon_values.specs.Printing.{str_of}
use Rattle.mon_values.specs.Troubles.{trouble, trouble_exc, not_iterable, wrong_argument, too_large}
use Rattle.mon_values.specs.Truth.{is_zero}
use Rattle.mon_values.specs.Weights.{made, most_weight, exc_of}
use Rattle.mon_frames.specs.Items.{items_of}
use Rattle.mon_frames.specs.Iterating.{iterated, next_of}
use Rattle.mon_frames.specs.Views.{FramesView}
use Rattle.mon_builtins.specs.declared.given.Given.{Given}
use Rattle.mon_builtins.specs.declared.given.Given.TheVariants as given
use Rattle.mon_builtins.specs.Literals.{literal}
use Rattle.mon_builtins.specs.Extremes.{extreme}

abbrev pub wrong_count : Trouble
wrong_count = trouble 5

abbrev pub raised : Trouble → Given
raised t = given.Raised (trouble_exc t [])

-- a value, or an exception of the machine
abbrev pub given_by : Result Value Trouble → Given
given_by (Ok v) = given.Value v
given_by (Err t) = raised t

-- the texts of the arguments, with a space between them, where the functions have these names
abbrev pub behind : List ℕ → List (List ℕ) → List Value → List ℕ
behind first names args = first ++ flat_map (λ x. 32 ∷ str_of names x) args

abbrev pub line_of : List (List ℕ) → List Value → List ℕ
line_of names [] = []
line_of names (x ∷ xs) = behind (str_of names x) names xs

-- a line that may be put out
abbrev pub short : List ℕ → Option (List ℕ)
short line = if nat_le (length line) most_weight then Some line else None

abbrev pub printed_line : Option (List ℕ) → Given
printed_line None = raised too_large
printed_line (Some line) = given.Printed line

-- print(..)
abbrev pub print_of : List (List ℕ) → List Value → Given
print_of names args = printed_line (short (line_of names args))

abbrev pub count_of : Option (List Value) → Result Value Trouble
count_of None = Err wrong_argument
count_of (Some items) = in_range (pos (length items))

-- len(x)
abbrev pub len_of : List Value → Result Value Trouble
len_of (x ∷ []) = count_of (items_of x)
len_of _ = Err wrong_count

abbrev pub ranged : Option ℤ → Option ℤ → Option ℤ → Result Value Trouble
ranged (Some start) (Some stop) (Some step) = if is_zero step then Err (trouble 12) else Ok (Range start stop step)
ranged _ _ _ = Err wrong_argument

-- range(b), range(a, b), range(a, b, s)
abbrev pub range_of : List Value → Result Value Trouble
range_of (b ∷ []) = ranged (Some (pos 0)) (integer b) (Some (pos 1))
range_of (a ∷ b ∷ []) = ranged (integer a) (integer b) (Some (pos 1))
range_of (a ∷ b ∷ s ∷ []) = ranged (integer a) (integer b) (integer s)
range_of _ = Err wrong_count

-- str(x)
abbrev pub text_due : List (List ℕ) → List Value → Result Value Trouble
text_due names (x ∷ []) = made (Text (str_of names x))
text_due names _ = Err wrong_count

abbrev pub spelled : Option ℤ → Result Value Trouble
spelled None = Err (trouble 10)
spelled (Some z) = in_range z

abbrev pub int_at : Operand → Result Value Trouble
int_at (Number n) = Ok (Int n)
int_at (Chars text) = spelled (literal text)
int_at _ = Err wrong_argument

-- int(x)
abbrev pub int_of : List Value → Result Value Trouble
int_of (x ∷ []) = int_at (operand x)
int_of _ = Err wrong_count

abbrev pub abs_at : Option ℤ → Result Value Trouble
abs_at None = Err wrong_argument
abs_at (Some z) = in_range (pos (unsigned_abs z))

-- abs(x)
abbrev pub abs_of : List Value → Result Value Trouble
abs_of (x ∷ []) = abs_at (integer x)
abs_of _ = Err wrong_count

abbrev pub gathered : Option (List Value) → Result Value Trouble
gathered None = Err not_iterable
gathered (Some items) = made (Tuple items)

-- tuple(), tuple(x)
abbrev pub tuple_of : List Value → Result Value Trouble
tuple_of [] = Ok (Tuple [])
tuple_of (x ∷ []) = gathered (items_of x)
tuple_of _ = Err wrong_count

-- StopIteration()
abbrev pub stop_iteration : Exc
stop_iteration = exc_of 3 None

abbrev pub item_or_stop : Option Value → Given
item_or_stop None = given.Raised stop_iteration
item_or_stop (Some x) = given.Value x

-- an iterator of this number moves on
abbrev pub iterator_next : FramesView → ℕ → Given × FramesView
iterator_next v number = (item_or_stop (next_of v number).0, (next_of v number).1)

-- a generator is for the machine to resume
abbrev pub next_at : FramesView → Value-F Value Exc → Given × FramesView
next_at v (Value-F.Iter number) = iterator_next v number
next_at v (Value-F.Gen number) = (given.Next number, v)
next_at v _ = (raised wrong_argument, v)

-- next(x)
abbrev pub next_due : FramesView → List Value → Given × FramesView
next_due v (x ∷ []) = next_at v (out-Value x)
next_due v _ = (raised wrong_count, v)

abbrev pub iter_at : FramesView → Result (Value × FramesView) Trouble → Given × FramesView
iter_at v (Ok due) = (given.Value due.0, due.1)
iter_at v (Err t) = (raised t, v)

-- iter(x)
abbrev pub iter_due : FramesView → List Value → Given × FramesView
iter_due v (x ∷ []) = iter_at v (iterated v x)
iter_due v _ = (raised wrong_count, v)

-- the builtins by their numbers: what is given, and the frames then
abbrev pub builtin_due : ℕ → List Value → List (List ℕ) → FramesView → Given × FramesView
builtin_due number args names v =
    if number == 0 then (print_of names args, v) else
    if number == 1 then (given_by (len_of args), v) else
    if number == 2 then (given_by (range_of args), v) else
    if number == 3 then (given_by (text_due names args), v) else
    if number == 4 then (given_by (int_of args), v) else
    if number == 5 then (given_by (abs_of args), v) else
    if number == 6 then (given_by (extreme CmpOp.Lt args), v) else
    if number == 7 then (given_by (extreme CmpOp.Gt args), v) else
    if number == 8 then (given_by (tuple_of args), v) else
    if number == 9 then next_due v args else
    iter_due v args
