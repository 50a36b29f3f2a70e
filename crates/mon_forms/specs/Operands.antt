-- What a word behind the first is: a number, a name, a set, a policy, a text.
use Rattle.std.specs.Prelude.{ℕ, ◌+◌, ◌-◌, ◌*◌, ◌==◌, nat_lt, nat_le, Bool, false, not, ◌&&◌, ◌||◌, List, [], ◌∷◌, length, find, Option, Some, None, Result, Ok, Err, ℤ, pos, negsuc, neg_ℤ, bytes_eq, codes, slice_index, slice_range, if◌then◌else◌}
use Rattle.std.specs.List.{list_all}
use Rattle.std.specs.Char.{is_ascii_digit, is_ascii_alphanumeric}
use Rattle.mon_events.specs.Names.{set_of_names}
use Rattle.mon_events.specs.declared.names.UnknownName.{UnknownName}
use Rattle.mon_events.specs.declared.set.EventSet.{EventSet}
use Rattle.mon_history.specs.declared.calls.Policy.{Policy}
use Rattle.mon_values.specs.declared.value.Value.{Value}
use Rattle.mon_forms.specs.declared.limits.TheConstants.{MAX_TEXT}
use Rattle.mon_forms.specs.declared.plan.ReportKind.{ReportKind}

-- what the digits have for a value, behind others that have the value n
abbrev pub value_behind : ℕ → List ℕ → Option ℕ
value_behind n [] = Some n
value_behind n (c ∷ cs) = if is_ascii_digit c then value_behind (10 * n + (c - 48)) cs else None

-- the value of 1 to 18 digits
abbrev pub digits_value : List ℕ → Option ℕ
digits_value word = if nat_lt 0 (length word) && nat_le (length word) 18 then value_behind 0 word else None

abbrev pub positive : Option ℕ → Option ℤ
positive None = None
positive (Some n) = Some (pos n)

abbrev pub negative : Option ℕ → Option ℤ
negative None = None
negative (Some n) = Some (neg_ℤ (pos n))

-- an integer: 1 to 18 digits, behind a `-` or none
abbrev pub integer_of : List ℕ → Option ℤ
integer_of [] = None
integer_of (c ∷ cs) = if c == 45 then negative (digits_value cs) else positive (digits_value (c ∷ cs))

abbrev pub if_below : ℕ → Option ℤ → Option ℕ
if_below limit None = None
if_below limit (Some (pos n)) = if nat_lt n limit then Some n else None
if_below limit (Some (negsuc n)) = None

-- an integer from 0 on, below a limit
abbrev pub number_below : ℕ → List ℕ → Option ℕ
number_below limit word = if_below limit (integer_of word)

abbrev pub is_inner : ℕ → Bool
is_inner c = not (c == 39) && not (c == 92)

-- between the first character and the last
abbrev pub inner : List ℕ → List ℕ
inner word = slice_range word 1 (length word - 1)

abbrev pub is_quoted : List ℕ → Bool
is_quoted word = nat_le 2 (length word) && slice_index word 0 == 39 && slice_index word (length word - 1) == 39 && list_all is_inner (inner word)

-- the text of a word in single quotes, with neither a `'` nor a `\` between them
abbrev pub quoted : List ℕ → Option (List ℕ)
quoted word = if is_quoted word then Some (inner word) else None

abbrev pub is_long : Option (List ℕ) → Bool
is_long None = false
is_long (Some text) = nat_lt MAX_TEXT (length text)

abbrev pub has_long_text : List (List ℕ) → Bool
has_long_text [] = false
has_long_text (word ∷ words) = is_long (quoted word) || has_long_text words

abbrev pub integer_or_text : Option ℤ → Option (List ℕ) → Option Value
integer_or_text (Some n) text = Some (Value.Int n)
integer_or_text None (Some text) = Some (Value.Text text)
integer_or_text None None = None

-- an argument of a thread: an integer, or a text in single quotes
abbrev pub argument_of : List ℕ → Option Value
argument_of word = integer_or_text (integer_of word) (quoted word)

abbrev pub and_arguments : Option Value → Option (List Value) → Option (List Value)
and_arguments None values = None
and_arguments (Some v) None = None
and_arguments (Some v) (Some values) = Some (v ∷ values)

abbrev pub arguments_of : List (List ℕ) → Option (List Value)
arguments_of [] = Some []
arguments_of (word ∷ words) = and_arguments (argument_of word) (arguments_of words)

abbrev pub is_name_char : ℕ → Bool
is_name_char c = is_ascii_alphanumeric c || c == 95 || c == 45 || c == 46

-- 1 to 32 letters, digits, `_`, `-` and `.`
abbrev pub is_tool_name : List ℕ → Bool
is_tool_name word = nat_lt 0 (length word) && nat_le (length word) 32 && list_all is_name_char word

abbrev pub tool_name_of : List ℕ → Option (List ℕ)
tool_name_of word = if is_tool_name word then Some word else None

abbrev pub known : Result EventSet UnknownName → Option EventSet
known (Ok set) = Some set
known (Err unknown) = None

abbrev pub set_of : List ℕ → Option EventSet
set_of word = known (set_of_names word)

abbrev pub policy_word : Policy → List ℕ
policy_word Policy.Keep = codes "keep"
policy_word Policy.Once = codes "once"
policy_word Policy.Nothing = codes "None"

abbrev pub policy_of : List ℕ → Option Policy
policy_of word = find (λ p. bytes_eq (policy_word p) word) (Policy.Keep ∷ Policy.Once ∷ Policy.Nothing ∷ [])

abbrev pub report_word : ReportKind → List ℕ
report_word ReportKind.Coverage = codes "coverage"
report_word ReportKind.Lines = codes "lines"
report_word ReportKind.Calls = codes "calls"
report_word ReportKind.Branches = codes "branches"

abbrev pub report_of : List ℕ → Option ReportKind
report_of word = find (λ k. bytes_eq (report_word k) word) (ReportKind.Coverage ∷ ReportKind.Lines ∷ ReportKind.Calls ∷ ReportKind.Branches ∷ [])
