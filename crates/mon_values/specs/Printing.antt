-- How values print.
use Rattle.std.specs.Prelude.{ℕ, ◌+◌, ◌/◌, ◌%◌, ◌==◌, nat_lt, length, List, [], ◌∷◌, ◌++◌, Option, Some, None, Bool, true, false, ◌&&◌, ◌||◌, not, ℤ, pos, negsuc, codes, if◌then◌else◌}
use Rattle.std.specs.Fmt.{decimal, signed_decimal}
use Rattle.std.specs.List.{flat_map, list_any}
use Rattle.mon_values.specs.declared.value.Value.{Value}
use Rattle.mon_values.specs.declared.value.Value.TheOpen.{Value-F, Exc-F}
use Rattle.mon_values.specs.declared.value.Value.TheFolds.{fold-Value, fold-Exc}
use Rattle.mon_values.specs.declared.value.Exc.{Exc}
use Rattle.mon_values.specs.Classes.{class_name, builtin_name, name_at}

-- a digit from 0 to 15
abbrev pub hex_digit : ℕ → ℕ
hex_digit n = if nat_lt n 10 then 48 + n else 87 + n

-- between double quotes where it has a single one and no double one, else between single ones
abbrev pub quote_of : List ℕ → ℕ
quote_of text = if list_any (λ c. c == 39) text && not (list_any (λ c. c == 34) text) then 34 else 39

-- a character between such quotes
abbrev pub escaped : ℕ → ℕ → List ℕ
escaped quote c =
    if c == 92 || c == quote then 92 ∷ c ∷ []
    else if c == 10 then codes "\\n"
    else if c == 13 then codes "\\r"
    else if c == 9 then codes "\\t"
    else if nat_lt c 32 || c == 127 then codes "\\x" ++ hex_digit (c / 16) ∷ hex_digit (c % 16) ∷ []
    else c ∷ []

abbrev pub quoted : ℕ → List ℕ → List ℕ
quoted quote text = quote ∷ flat_map (escaped quote) text ++ quote ∷ []

abbrev pub text_repr : List ℕ → List ℕ
text_repr text = quoted (quote_of text) text

-- the two ways in which a value prints
pub record Printed : Type 0 where
  pub repr : List ℕ
  pub text : List ℕ

-- both ways alike
abbrev pub alike : List ℕ → Printed
alike chars = record { repr = chars; text = chars }

-- the items with ", " between them
abbrev pub joined : List Printed → List ℕ
joined [] = []
joined (p ∷ []) = p.repr
joined (p ∷ q ∷ ps) = p.repr ++ codes ", " ++ joined (q ∷ ps)

-- a lone item has a comma behind it
abbrev pub tuple_end : ℕ → List ℕ
tuple_end count = if count == 1 then codes ",)" else codes ")"

abbrev pub tuple_repr : List Printed → List ℕ
tuple_repr items = codes "(" ++ joined items ++ tuple_end (length items)

-- the step where it is not 1
abbrev pub step_repr : ℤ → List ℕ
step_repr (pos n) = if n == 1 then [] else codes ", " ++ decimal n
step_repr (negsuc n) = codes ", " ++ signed_decimal (negsuc n)

abbrev pub range_repr : ℤ → ℤ → ℤ → List ℕ
range_repr start stop step = codes "range(" ++ signed_decimal start ++ codes ", " ++ signed_decimal stop ++ step_repr step ++ codes ")"

abbrev pub function_repr : List (List ℕ) → ℕ → List ℕ
function_repr names k = codes "<function " ++ name_at names k ++ codes ">"

abbrev pub builtin_repr : ℕ → List ℕ
builtin_repr k = codes "<built-in " ++ builtin_name k ++ codes ">"

abbrev pub class_repr : ℕ → List ℕ
class_repr k = codes "<class '" ++ class_name k ++ codes "'>"

abbrev pub generator_repr : ℕ → List ℕ
generator_repr k = codes "<generator " ++ decimal k ++ codes ">"

abbrev pub iterator_repr : ℕ → List ℕ
iterator_repr k = codes "<iterator " ++ decimal k ++ codes ">"

abbrev pub bool_repr : Bool → List ℕ
bool_repr true = codes "True"
bool_repr false = codes "False"

abbrev pub printed_step : List (List ℕ) → Value-F Printed Printed → Printed
printed_step names Value-F.None = alike (codes "None")
printed_step names (Value-F.Bool b) = alike (bool_repr b)
printed_step names (Value-F.Int n) = alike (signed_decimal n)
printed_step names (Value-F.Text text) = record { repr = text_repr text; text = text }
printed_step names (Value-F.Tuple items) = alike (tuple_repr items)
printed_step names (Value-F.Function k) = alike (function_repr names k)
printed_step names (Value-F.Builtin k) = alike (builtin_repr k)
printed_step names (Value-F.ExcClass k) = alike (class_repr k)
printed_step names (Value-F.Exc e) = e
printed_step names (Value-F.Gen k) = alike (generator_repr k)
printed_step names (Value-F.Iter k) = alike (iterator_repr k)
printed_step names (Value-F.Range start stop step) = alike (range_repr start stop step)
printed_step names (Value-F.Done e) = alike []

abbrev pub arg_repr : Option Printed → List ℕ
arg_repr None = []
arg_repr (Some p) = p.repr

abbrev pub arg_text : Option Printed → List ℕ
arg_text None = []
arg_text (Some p) = p.text

-- an exception prints as a call of its class, and as its argument
abbrev pub exc_printed_step : Exc-F Printed Printed → Printed
exc_printed_step e = record { repr = class_name e.class ++ codes "(" ++ arg_repr e.arg ++ codes ")"; text = arg_text e.arg }

-- a value, where the functions have these names
abbrev pub printed : List (List ℕ) → Value → Printed
printed names = fold-Value Printed Printed (printed_step names) exc_printed_step

abbrev pub exc_printed : List (List ℕ) → Exc → Printed
exc_printed names = fold-Exc Printed Printed (printed_step names) exc_printed_step

abbrev pub repr_of : List (List ℕ) → Value → List ℕ
repr_of names v = (printed names v).repr

abbrev pub exc_repr_of : List (List ℕ) → Exc → List ℕ
exc_repr_of names e = (exc_printed names e).repr

abbrev pub str_of : List (List ℕ) → Value → List ℕ
str_of names v = (printed names v).text

abbrev pub exc_str_of : List (List ℕ) → Exc → List ℕ
exc_str_of names e = (exc_printed names e).text
